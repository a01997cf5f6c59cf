-- A line of a sound policy stands out for one list of reasons, by value.
use Rattle.std.proofs.Common.{◌≡◌, ◌⊎◌, ℕ, zero, suc, ◌-◌, ◌<◌, ◌≤◌, ◌^◌, ◌++◌, ◌∙◌, Bor, Bool, true, false, List, [], ◌∷◌, Option, None, Some, ap, arith, inl, inr, is_some, map, option_copied, option_map, option_to_list, refl, subst, sym, true≢false}
use Rattle.std.specs.Prelude.{Contains}
use Rattle.std.proofs.lemmas.Bool.{cases_Bool, cases_lt}
use Rattle.std.proofs.lemmas.List.{map-append}
use Rattle.desk_text.specs.Address.{number_of}
use Rattle.desk_text.specs.declared.address.Addr.{Addr}
use Rattle.desk_policy.specs.Policy.{Content, rows_of}
use Rattle.desk_policy.specs.Weights.{selected, weight_of}
use Rattle.desk_policy.specs.declared.row.Row.{Row}
use Rattle.desk_idle.specs.Idle.{DecidesNothing, IsNamed, MatchesNobody}
use Rattle.desk_server.specs.RepeatedClients.{IsRepeatedClient, SharesClient}
use Rattle.desk_server.specs.WiderGrants.{IsWiderAt, IsWiderGrant, WidensFirst, first_unwritten}
use Rattle.desk_server.specs.declared.repeated_client.RepeatedClient.{RepeatedClient as Repeated}
use Rattle.desk_server.specs.declared.wider_grant.WiderGrant.{WiderGrant}
use Rattle.page_data.specs.Grants.{GrantsTo, HoldsOf}
use Rattle.page_data.specs.Laws.{IsSound}
use Rattle.page_data.specs.Lines.{AreLineReasons, IsToldOf}
use Rattle.page_data.specs.Reasons.{reasons_on}
use Rattle.page_data.specs.Server.{AreServerReasons, IsRepeatedOf, IsWiderOf, server_reasons}
use Rattle.page_data.specs.ReasonValues.{Another, GrantsMore, ReasonValue, ReasonsValue, WiderValue, reason_value, reasons_value, wider_value}
use Rattle.page_data.specs.Unique.{ReasonsAreUnique}
use Rattle.page_data.specs.declared.lines.LineReasons.{LineReasons}
use Rattle.page_data.specs.declared.reasons.Reason.{Reason}
use Rattle.page_data.specs.declared.reasons.Reason.TheVariants.{ServerGrantsMore, RepeatedClient}
use Rattle.page_data.proofs.GrantsNothing.{counts_none, idle_lines_grant_nothing, named_by}
use Rattle.page_data.proofs.OneOrder.{each_by_value}
use Rattle.page_data.proofs.Selecting.{one_by_number}
use Rattle.page_data.proofs.UniqueCounts.{one_amount}

-- ---- what is the same of reasons that are the same by value
abbrev pub path_kept : List (List ℕ) → Bor (List (List ℕ))
path_kept path = record { ref_ptr = (0, 0); now = path }

abbrev pub wider_kept : WiderValue → WiderGrant
wider_kept value = record { line = value.line; address = value.address; other = value.other; directory = option_map path_kept value.directory }

-- a reason made again of its value
abbrev pub reason_kept : ReasonValue → Reason
reason_kept (GrantsMore value) = ServerGrantsMore (wider_kept value)
reason_kept (Another reason) = reason

abbrev wider_with : ℕ → Addr → ℕ → Option (List (List ℕ)) → WiderValue
wider_with line address other directory = record { line = line; address = address; other = other; directory = directory }

same_copied : (directory : Option (Bor (List (List ℕ)))) → option_copied directory ≡ option_copied (option_map path_kept (option_copied directory))
same_copied None = refl
same_copied (Some path) = refl

module _ {B : Type 0} (f : Reason → B) (alike : (found other : WiderGrant) → wider_value found ≡ wider_value other → f (ServerGrantsMore found) ≡ f (ServerGrantsMore other)) where
  pub by_kept : (reason : Reason) → f reason ≡ f (reason_kept (reason_value reason))
  by_kept (ServerGrantsMore found) =
      alike found (wider_kept (wider_value found)) (ap (λ (directory : Option (List (List ℕ))). wider_with found.line found.address found.other directory) (same_copied found.directory))
  by_kept reason = refl

  pub same_by_value : (reason other : Reason) → reason_value reason ≡ reason_value other → f reason ≡ f other
  same_by_value reason other same = by_kept reason ∙ ap (λ (value : ReasonValue). f (reason_kept value)) same ∙ sym (by_kept other)

  each_kept : (reasons : List Reason) → map f reasons ≡ map (λ value. f (reason_kept value)) (map reason_value reasons)
  each_kept [] = refl
  each_kept (reason ∷ reasons) =
      ap (λ one. one ∷ map f reasons) (by_kept reason)
      ∙ ap (λ rest. f (reason_kept (reason_value reason)) ∷ rest) (each_kept reasons)

  pub same_list_by_value : (reasons others : List Reason) → map reason_value reasons ≡ map reason_value others → map f reasons ≡ map f others
  same_list_by_value reasons others same = each_kept reasons ∙ ap (map (λ (value : ReasonValue). f (reason_kept value))) same ∙ sym (each_kept others)

-- ---- what the server grants more
abbrev addr_with : ℕ → Addr
addr_with n = record { number = n }

same_addr : (address other : Addr) → number_of address ≡ number_of other → address ≡ other
same_addr address other same = ap addr_with same

-- the first of the heaviest lines that list more
one_first : (content : Content) (fs : ℕ) → IsSound content fs → (address : ℕ) (row other : Row) → WidensFirst (rows_of content fs) address row → WidensFirst (rows_of content fs) address other → row ≡ other
one_first content fs sound address row other are its =
    one_by_number (rows_of content fs) sound.ascending row other are.widens.has its.widens.has
    (elim (are.least other its.weight its.widens) as (λ _. row.entry.line ≡ other.entry.line) [
      | inl less ↦ elim (its.least row are.weight are.widens) as (λ _. row.entry.line ≡ other.entry.line) [
        | inl less' ↦ absurd (omega arith)
        | inr same' ↦ absurd (let weight = same'.0 in omega arith)
      ]
      | inr same ↦
          let weight = same.0 in
          let low = same.1 in
          elim (its.least row are.weight are.widens) as (λ _. row.entry.line ≡ other.entry.line) [
            | inl less' ↦ absurd (omega arith)
            | inr same' ↦ (let high = same'.1 in omega arith)
          ]
    ])

module _ (content : Content) (fs : ℕ) (sound : IsSound content fs) where
  abbrev rows : List Row
  rows = rows_of content fs

  one_wider : (found other : WiderGrant) → found.line ≡ other.line → IsWiderGrant content fs found → IsWiderGrant content fs other → wider_value found ≡ wider_value other
  one_wider found other line are its =
      let low = its.least (number_of found.address) (subst (λ n. IsWiderAt content fs n (number_of found.address)) line are.at) in
      let high = are.least (number_of other.address) (subst (λ n. IsWiderAt content fs n (number_of other.address)) (sym line) its.at) in
      let same : number_of found.address ≡ number_of other.address = omega arith in
      let row : are.row ≡ its.row = one_first content fs sound (number_of other.address) are.row its.row (subst (λ n. WidensFirst rows n are.row) same are.by) its.by in
      let line' : found.other ≡ other.other = sym are.other ∙ ap (λ (r : Row). r.entry.line) row ∙ its.other in
      let directory : option_copied found.directory ≡ option_copied other.directory =
      are.directory ∙ ap (λ n. first_unwritten (selected rows n) are.row) same ∙ ap (λ (r : Row). first_unwritten (selected rows (number_of other.address)) r) row ∙ sym its.directory in
      ap (λ n. wider_with n found.address found.other (option_copied found.directory)) line
      ∙ ap (λ (a : Addr). wider_with other.line a found.other (option_copied found.directory)) (same_addr found.address other.address same)
      ∙ ap (λ n. wider_with other.line other.address n (option_copied found.directory)) line'
      ∙ ap (λ (d : Option (List (List ℕ))). wider_with other.line other.address other.other d) directory

  one_wider_of : (line : ℕ) (one other : Option WiderGrant) → IsWiderOf content fs line one → IsWiderOf content fs line other → option_map wider_value one ≡ option_map wider_value other
  one_wider_of line None None are its = refl
  one_wider_of line None (Some other) are its =
      (let is = its.1 in absurd (are (number_of other.address) (subst (λ n. IsWiderAt content fs n (number_of other.address)) its.0 is.at)))
  one_wider_of line (Some found) None are its =
      (let is = are.1 in absurd (its (number_of found.address) (subst (λ n. IsWiderAt content fs n (number_of found.address)) are.0 is.at)))
  one_wider_of line (Some found) (Some other) are its = ap Some (one_wider found other (are.0 ∙ sym its.0) are.1 its.1)

  -- ---- what a line repeats
  abbrev repeated_with : ℕ → ℕ → Addr → Repeated
  repeated_with line other address = record { line = line; other = other; address = address }

  own_row : (row : Row) → Contains rows row → (found : Repeated) → found.line ≡ row.entry.line → (is : IsRepeatedClient rows found) → is.row ≡ row
  own_row row has found line is = one_by_number rows sound.ascending is.row row is.has has (is.line ∙ line)

  one_repeated : (row : Row) → Contains rows row → (found other : Repeated) → found.line ≡ row.entry.line → other.line ≡ row.entry.line → IsRepeatedClient rows found → IsRepeatedClient rows other
      → found ≡ other
  one_repeated row has found other line line' are its =
      let same : are.row ≡ its.row = own_row row has found line are ∙ sym (own_row row has other line' its) in
      let one = its.other in
      let two = are.other in
      let address = its.address in
      let address' = are.address in
      let low = are.least its.other_row its.client (subst (λ (r : Row). SharesClient rows r its.other_row its.client) (sym same) its.shares) in
      let high = its.least are.other_row are.client (subst (λ (r : Row). SharesClient rows r are.other_row are.client) same are.shares) in
      let both : (found.other ≡ other.other) × (number_of found.address ≡ number_of other.address) =
      elim low as (λ _. (found.other ≡ other.other) × (number_of found.address ≡ number_of other.address)) [
        | inl less ↦ elim high as (λ _. (found.other ≡ other.other) × (number_of found.address ≡ number_of other.address)) [
          | inl less' ↦ absurd (omega arith)
          | inr more' ↦ absurd (let at = more'.0 in omega arith)
        ]
        | inr more ↦
            let at = more.0 in
            let before = more.1 in
            elim high as (λ _. (found.other ≡ other.other) × (number_of found.address ≡ number_of other.address)) [
              | inl less' ↦ absurd (omega arith)
              | inr more' ↦ (let before' = more'.1 in (omega arith, omega arith))
            ]
      ] in
      ap (λ n. repeated_with n found.other found.address) (line ∙ sym line')
      ∙ ap (λ n. repeated_with other.line n found.address) both.0
      ∙ ap (λ (a : Addr). repeated_with other.line other.other a) (same_addr found.address other.address both.1)

  repeats : (row : Row) → Contains rows row → (found : Repeated) → found.line ≡ row.entry.line → (is : IsRepeatedClient rows found) → SharesClient rows row is.other_row is.client
  repeats row has found line is = subst (λ (r : Row). SharesClient rows r is.other_row is.client) (own_row row has found line is) is.shares

  one_repeated_of : (row : Row) → Contains rows row → (one other : Option Repeated) → IsRepeatedOf rows row one → IsRepeatedOf rows row other → one ≡ other
  one_repeated_of row has None None are its = refl
  one_repeated_of row has None (Some other) are its = (let is = its.1 in absurd (are is.other_row is.client (repeats row has other its.0 is)))
  one_repeated_of row has (Some found) None are its = (let is = are.1 in absurd (its is.other_row is.client (repeats row has found are.0 is)))
  one_repeated_of row has (Some found) (Some other) are its = ap Some (one_repeated row has found other are.0 its.0 are.1 its.1)

  -- ---- both as reasons
  abbrev values_of : Option WiderValue → Option Repeated → List ReasonValue
  values_of wider repeated = option_to_list (option_map GrantsMore wider) ++ map reason_value (option_to_list (option_map RepeatedClient repeated))

  server_values : (wider : Option WiderGrant) (repeated : Option Repeated) → map reason_value (server_reasons wider repeated) ≡ values_of (option_map wider_value wider) repeated
  server_values None repeated = refl
  server_values (Some found) repeated = refl

  one_server : (row : Row) (reasons others : List Reason) → Contains rows row → AreServerReasons content fs row reasons → AreServerReasons content fs row others
      → map reason_value reasons ≡ map reason_value others
  one_server row reasons others has are its =
      ap (map reason_value) are.are
      ∙ server_values are.wider are.repeated
      ∙ ap (λ (wider : Option WiderValue). values_of wider are.repeated) (one_wider_of row.entry.line are.wider its.wider are.is_wider its.is_wider)
      ∙ ap (λ (repeated : Option Repeated). values_of (option_map wider_value its.wider) repeated) (one_repeated_of row has are.repeated its.repeated are.is_repeated its.is_repeated)
      ∙ sym (server_values its.wider its.repeated)
      ∙ sym (ap (map reason_value) its.are)

-- ---- some number below this one passes a test, or none does
record Passes (test : ℕ → Bool) (end : ℕ) : Type 0 where
  number : ℕ
  below : number < end
  passes : test number ≡ true

some_or_none : (test : ℕ → Bool) (end : ℕ) → Passes test end ⊎ ((number : ℕ) → number < end → test number ≡ false)
some_or_none test zero = inr (λ number less. absurd (omega arith))
some_or_none test (suc end) =
    elim (some_or_none test end) as (λ _. Passes test (suc end) ⊎ ((number : ℕ) → number < suc end → test number ≡ false)) [
      | inl some ↦ (let less = some.below in inl (record { number = some.number; below = omega arith; passes = some.passes }))
      | inr none ↦ elim (cases_Bool (test end)) as (λ _. Passes test (suc end) ⊎ ((number : ℕ) → number < suc end → test number ≡ false)) [
        | inl passes ↦ inl (record { number = end; below = omega arith; passes = passes })
        | inr fails ↦ inr (λ number less. elim (cases_lt number end) as (λ _. test number ≡ false) [
          | inl before ↦ none number before
          | inr last ↦ (let same : number ≡ end = omega arith in ap test same ∙ fails)
        ])
      ]
    ]

-- ---- a line matches nobody, or it does not
is_none : (weight : Option ℕ) → is_some weight ≡ false → weight ≡ None
is_none None none = refl
is_none (Some weight) none = absurd (true≢false none)

none_some : (weight : Option ℕ) → is_some weight ≡ true → weight ≡ None → ⊥
none_some weight some none = true≢false (sym some ∙ ap is_some none)

nobody_or_some : (row : Row) → MatchesNobody row ⊎ (MatchesNobody row → ⊥)
nobody_or_some row =
    elim (some_or_none (λ address. is_some (weight_of row address)) (2 ^ 32)) as (λ _. MatchesNobody row ⊎ (MatchesNobody row → ⊥)) [
      | inl some ↦ inr (λ nobody. none_some (weight_of row some.number) some.passes (nobody some.number some.below))
      | inr none ↦ inl (λ address fits. is_none (weight_of row address) (none address fits))
    ]

module _ (content : Content) (fs : ℕ) (sound : IsSound content fs) where
  -- ---- a line is named, or it decides nothing
  named_or_nothing : (line count : ℕ) → HoldsOf (GrantsTo content fs line) count → IsNamed content fs line ⊎ DecidesNothing content fs line
  named_or_nothing line count counts =
      elim (some_or_none counts.test (2 ^ 32)) as (λ _. IsNamed content fs line ⊎ DecidesNothing content fs line) [
        | inl some ↦ inl (named_by content fs line some.number some.below ((counts.decides some.number some.below).0 some.passes))
        | inr none ↦
            inr ((idle_lines_grant_nothing content fs line count sound counts).1
            (counts.are ∙ counts_none counts.test (2 ^ 32 - 1)
            (λ address le passes. let fits : address < 2 ^ 32 = omega arith in true≢false (sym passes ∙ none address fits))))
      ]

  module _ (one other : LineReasons) (same : one.line ≡ other.line) (are : IsToldOf content fs one) (its : IsToldOf content fs other) where
    same_row : are.row ≡ its.row
    same_row = one_by_number (rows_of content fs) sound.ascending are.row its.row are.has its.has (are.line ∙ same ∙ sym its.line)

    same_count : are.count ≡ its.count
    same_count = one_amount (GrantsTo content fs one.line) are.count its.count are.counts (subst (λ n. HoldsOf (GrantsTo content fs n) its.count) (sym same) its.counts)

    same_own : are.own ≡ its.own
    same_own =
        elim (named_or_nothing one.line are.count are.counts) as (λ _. are.own ≡ its.own) [
          | inl named ↦
              are.decides named ∙ ap (λ (row : Row). reasons_on row are.count) same_row ∙ ap (λ n. reasons_on its.row n) same_count
              ∙ sym (its.decides (subst (λ n. IsNamed content fs n) same named))
          | inr nothing ↦
              let nothing' : DecidesNothing content fs other.line = subst (λ n. DecidesNothing content fs n) same nothing in
              elim (nobody_or_some are.row) as (λ _. are.own ≡ its.own) [
                | inl nobody ↦ are.nobody nothing nobody ∙ sym (its.nobody nothing' (subst MatchesNobody same_row nobody))
                | inr some ↦ are.never nothing some ∙ sym (its.never nothing' (subst (λ (row : Row). MatchesNobody row → ⊥) same_row some))
              ]
        ]

    same_server : map reason_value are.server ≡ map reason_value its.server
    same_server =
        one_server content fs sound are.row are.server its.server are.has are.are_server (subst (λ (row : Row). AreServerReasons content fs row its.server) (sym same_row) its.are_server)

    same_reasons : map reason_value one.reasons ≡ map reason_value other.reasons
    same_reasons =
        ap (map reason_value) are.reasons ∙ map-append reason_value are.own are.server
        ∙ ap (λ (own : List Reason). map reason_value own ++ map reason_value are.server) same_own
        ∙ ap (λ (server : List ReasonValue). map reason_value its.own ++ server) same_server
        ∙ sym (map-append reason_value its.own its.server) ∙ sym (ap (map reason_value) its.reasons)

    abbrev reasons_with : ℕ → List ReasonValue → ReasonsValue
    reasons_with line reasons = record { line = line; reasons = reasons }

    one_told : reasons_value one ≡ reasons_value other
    one_told =
        ap (λ n. reasons_with n (map reason_value one.reasons)) same
        ∙ ap (λ (reasons : List ReasonValue). reasons_with other.line reasons) same_reasons

  one_list_of_lines : (found others : List LineReasons) → AreLineReasons content fs found → AreLineReasons content fs others → map reasons_value found ≡ map reasons_value others
  one_list_of_lines found others are its =
      each_by_value (λ (one : LineReasons). one.line) (IsToldOf content fs) reasons_value one_told found others (are.lines ∙ sym its.lines) are.each its.each

pub reasons_are_unique : ReasonsAreUnique
reasons_are_unique = record {
  server = λ content fs row reasons others sound. one_server content fs sound row reasons others;
  told = λ content fs one other sound. one_told content fs sound one other;
  lines = λ content fs found others sound. one_list_of_lines content fs sound found others;
}
