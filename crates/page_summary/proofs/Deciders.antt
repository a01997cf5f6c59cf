-- The lines that are named in place of one that never decides.
use Rattle.std.proofs.Common.{◌≡◌, ℕ, ◌<◌, ◌++◌, ◌∙◌, Bool, true, false, cond, List, [], ◌∷◌, Option, None, Some, ap, arith, filter, find, get_or, inl, inr, length, map, refl, subst, sym}
use Rattle.std.specs.Prelude.{◌==◌, Contains, nat_lt, option_map, unwrap_or}
use Rattle.std.specs.Option.{option_to_list}
use Rattle.std.proofs.lemmas.Bool.{cases_Bool}
use Rattle.std.proofs.lemmas.List.{get_or-map, length-map}
use Rattle.std.proofs.lemmas.List.Elements.{All-contains, Contains-get_or}
use Rattle.std.proofs.lemmas.Option.{same_Some}
use Rattle.desk_idle.specs.Idle.{DecidesNothing, MatchesNobody}
use Rattle.desk_policy.specs.Policy.{AreAscending, Content, rows_of}
use Rattle.desk_policy.specs.declared.row.Row.{Row}
use Rattle.page_data.proofs.Containing.{here, here_or_there, there}
use Rattle.page_data.proofs.Numbered.{found_by_number}
use Rattle.page_data.specs.Class.{keeps_root}
use Rattle.page_data.specs.Lines.{IsToldOf}
use Rattle.page_data.specs.Reasons.{are_all, are_names, narrow, reasons_on}
use Rattle.page_data.specs.Server.{AreServerReasons, server_reasons}
use Rattle.desk_server.specs.declared.repeated_client.RepeatedClient.{RepeatedClient as Repeated}
use Rattle.desk_server.specs.declared.wider_grant.WiderGrant.{WiderGrant}
use Rattle.page_data.specs.declared.lines.LineReasons.{LineReasons}
use Rattle.page_data.specs.declared.reasons.Reason.{Reason}
use Rattle.page_data.specs.declared.reasons.Reason.TheVariants as reason_of
use Rattle.page_findings.specs.Deciding.{AreDeciding, DecidedFor, IsDecidedFor, deciding_of, never_decides}
use Rattle.page_summary.specs.Laws.{NamedLinesDecide}

abbrev reason_line : LineReasons → ℕ
reason_line one = one.line

abbrev row_line : Row → ℕ
row_line row = row.entry.line

abbrev decided_line : DecidedFor → ℕ
decided_line one = one.line

abbrev deciding : DecidedFor → List ℕ
deciding one = one.deciding

abbrev never : LineReasons → Bool
never one = never_decides one.reasons

module _ {X Y : Type 0} (f : X → ℕ) (g : Y → ℕ) where
  -- one that has the same number
  counterpart : (xs : List X) (ys : List Y) → map f xs ≡ map g ys → (y : Y) → Contains ys y → (x : X) × Contains xs x × (f x ≡ g y)
  counterpart [] ys same y has =
      let many : 0 ≡ length ys = ap length same ∙ length-map ys g in
      let within : has.0 < length ys = has.1 in
      absurd (omega arith)
  counterpart (x ∷ xs) ys same y has =
      let all : List X = x ∷ xs in
      let many : length all ≡ length ys = sym (length-map all f) ∙ ap length same ∙ length-map ys g in
      let within : has.0 < length ys = has.1 in (
        get_or all has.0 x,
        Contains-get_or all has.0 x (omega arith),
        sym (get_or-map f all has.0 x (f x) (omega arith)) ∙ ap (λ ns. get_or ns has.0 (f x)) same ∙ get_or-map g ys has.0 y (f x) within ∙ ap g has.2,
      )

-- what passes is still there
passes : {X : Type 0} (test : X → Bool) (xs : List X) (x : X) → Contains xs x → test x ≡ true → Contains (filter test xs) x
passes test [] x has is = absurd (let lt = has.1 in omega arith)
passes test (first ∷ xs) x has is =
    elim (here_or_there first x xs has) as (λ _. Contains (filter test (first ∷ xs)) x) [
      | inl same ↦ subst (λ b. Contains (cond b (first ∷ filter test xs) (filter test xs)) x) (sym (ap test same ∙ is)) (here first x (filter test xs) same)
      | inr later ↦
          let rest : Contains (filter test xs) x = passes test xs x later is in
          elim (cases_Bool (test first)) as (λ _. Contains (filter test (first ∷ xs)) x) [
            | inl kept ↦ subst (λ b. Contains (cond b (first ∷ filter test xs) (filter test xs)) x) (sym kept) (there first x (filter test xs) rest)
            | inr gone ↦ subst (λ b. Contains (cond b (first ∷ filter test xs) (filter test xs)) x) (sym gone) rest
          ]
    ]

same_row : (rows : List Row) → AreAscending rows → (row other : Row) → Contains rows row → Contains rows other → row.entry.line ≡ other.entry.line → row ≡ other
same_row rows ascending row other has has' same =
    same_Some row other (sym (found_by_number row_line rows ascending row has) ∙ ap (λ n. find (λ (one : Row). one.entry.line == n) rows) same
    ∙ found_by_number row_line rows ascending other has')

-- a line that decides has other reasons
never_on : (row : Row) (count : ℕ) → never_decides (reasons_on row count) ≡ false
never_on row count = by (are_all row.entry.clients) row.entry.terms.ro (nat_lt narrow count) (keeps_root row.entry.terms) (are_names row.entry.clients)
  where
    by : (all ro wide kept names : Bool)
        → never_decides (option_to_list (cond all (cond ro (Some reason_of.ForEverybodyReadOnly) (Some reason_of.ForEverybodyReadWrite)) (cond wide (Some reason_of.Wide) None))
        ++ option_to_list (cond kept (cond names (Some reason_of.RootKeptForNames) (Some reason_of.RootKeptForNetworks)) None)) ≡ false
    by true true wide kept names = refl
    by true false wide kept names = refl
    by false ro true kept names = refl
    by false ro false true true = refl
    by false ro false true false = refl
    by false ro false false names = refl

-- what the server does otherwise is no such reason, and comes last
never_behind : (own server : List Reason) → never_decides own ≡ false → never_decides server ≡ false → never_decides (own ++ server) ≡ false
never_behind [] server apart behind = behind
never_behind (reason ∷ reasons) server apart behind = apart

never_served : (content : Content) (fs : ℕ) (row : Row) (server : List Reason) → AreServerReasons content fs row server → never_decides server ≡ false
never_served content fs row server are = ap never_decides are.are ∙ by are.wider are.repeated
  where
    by : (wider : Option WiderGrant) (repeated : Option Repeated) → never_decides (server_reasons wider repeated) ≡ false
    by None None = refl
    by None (Some one) = refl
    by (Some one) repeated = refl

module _ (content : Content) (fs number : ℕ) (reasons : List Reason) (told : IsToldOf content fs (record { line = number; reasons = reasons })) (is_never : never_decides reasons ≡ true) where
  clash : (own : List Reason) → told.own ≡ own → never_decides own ≡ false → ⊥
  clash own are apart =
      let behind : never_decides (own ++ told.server) ≡ false = never_behind own told.server apart (never_served content fs told.row told.server told.are_server) in
      let e : true ≡ false = sym is_never ∙ ap never_decides (told.reasons ∙ ap (λ some. some ++ told.server) are) ∙ behind in cc

  nothing : DecidesNothing content fs number
  nothing named = clash (reasons_on told.row told.count) (told.decides named) (never_on told.row told.count)

  somebody : MatchesNobody told.row → ⊥
  somebody nobody = clash (reason_of.NoClient ∷ []) (told.nobody nothing nobody) refl

pub named_decide : NamedLinesDecide
named_decide content line reasons found ascending has is are decided is_never =
    let fs = line.fs in
    let number = line.row.entry.line in
    let rows = rows_of content fs in
    let told : IsToldOf content fs (record { line = number; reasons = line.reasons }) = is.reasons in
    let entry = counterpart reason_line row_line reasons rows are.lines line.row has in
    let of_entry : IsToldOf content fs entry.0 = All-contains (IsToldOf content fs) reasons entry.0 are.each entry.1 in
    let same : told.row ≡ of_entry.row = same_row rows ascending told.row of_entry.row told.has of_entry.has (told.line ∙ sym entry.2 ∙ sym of_entry.line) in
    let nothing' : DecidesNothing content fs entry.0.line = subst (DecidesNothing content fs) (sym entry.2) (nothing content fs number line.reasons told is_never) in
    let somebody' : MatchesNobody of_entry.row → ⊥ = λ nobody. somebody content fs number line.reasons told is_never (subst MatchesNobody (sym same) nobody) in
    let passing : never entry.0 ≡ true = ap never_decides (of_entry.reasons ∙ ap (λ some. some ++ of_entry.server) (of_entry.never nothing' somebody')) in
    let one = counterpart decided_line reason_line found (filter never reasons) decided.lines entry.0 (passes never reasons entry.0 entry.1 passing) in
    let numbered : one.0.line ≡ number = one.2 ∙ entry.2 in
    let looked : find (λ (other : DecidedFor). other.line == one.0.line) found ≡ Some one.0 =
    found_by_number decided_line found decided.order one.0 one.1 in
    let own : IsDecidedFor content fs one.0 = All-contains (IsDecidedFor content fs) found one.0 decided.each one.1 in
    let own_row : own.row ≡ line.row = same_row rows ascending own.row line.row own.has has (own.line ∙ numbered) in
    subst (AreDeciding content fs line.row)
    (sym (ap (λ n. deciding_of n found) (sym numbered) ∙ ap (λ found_one. unwrap_or (option_map deciding found_one) []) looked))
    (subst (λ row. AreDeciding content fs row one.0.deciding) own_row own.deciding)
