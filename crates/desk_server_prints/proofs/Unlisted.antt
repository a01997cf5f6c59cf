-- The line by which mountd grants what no selected line lists: the first of the heaviest that name the client and list it.
use Rattle.std.proofs.Common.{◌≡◌, ◌∙◌, ℕ, ◌<◌, ◌≤◌, ◌&&◌, Bool, true, false, List, [], ◌∷◌, Option, Some, None, ap, arith, inl, inr, refl, subst, sym}
use Rattle.std.specs.Prelude.{Result, Err, filter, find}
use Rattle.std.specs.List.{Contains, list_all, list_any}
use Rattle.std.proofs.lemmas.Bool.{and_from, cases_Bool, cases_lt, cond-false, eqb-true, le-leb, lt-ltb, true≢false}
use Rattle.std.proofs.lemmas.List.Elements.{Contains-append_right, filter_agree}
use Rattle.std.proofs.lemmas.List.Folds.{list_any_at}
use Rattle.desk_tables.specs.FileSystems.{fs_of}
use Rattle.desk_tables.specs.declared.filesystems.FsId.{FsId}
use Rattle.desk_index.proofs.SelectedLines.{lists_same}
use Rattle.desk_policy.specs.Policy.{Content, rows_of}
use Rattle.desk_policy.specs.Verdict.{Grant, granted_by, lists, verdict_among, verdict_in, verdict_of}
use Rattle.desk_policy.specs.Weights.{is_at_most, is_greatest, selected, weight_of}
use Rattle.desk_policy.specs.declared.row.Row.{Row}
use Rattle.desk_policy.specs.declared.verdict.Denial.{Denial}
use Rattle.desk_policy.specs.declared.verdict.Denial.TheVariants.{NoFileSystem, NoLine, NotListed}
use Rattle.desk_idle.proofs.Looks.{none_passes}
use Rattle.desk_server.specs.Server.{asked, for_everybody, granted_on, granting, is_everybody, is_named, named, server_verdict_by, server_verdict_in, server_verdict_of}
use Rattle.desk_server.proofs.Asking.{asked_everybody, asked_named}
use Rattle.desk_server.proofs.Granting.{server_here}
use Rattle.desk_server.proofs.Lists.{filter-filter, has_kept, kept_has, passing}
use Rattle.desk_server_prints.specs.PrivateGrantingLine.{is_wider}
use Rattle.desk_server_prints.specs.GrantingLine.{first_number, granting_line, wider_line}

-- ---- lists

nothing_kept : (p : Row → Bool) (xs : List Row) → ((x : Row) → Contains xs x → p x ≡ true → ⊥) → filter p xs ≡ []
nothing_kept p [] none = refl
nothing_kept p (x ∷ xs) none =
    elim (cases_Bool (p x)) [
      | inl kept ↦ absurd (none x (0, omega arith, refl) kept)
      | inr left ↦ cond-false (p x) (x ∷ filter p xs) (filter p xs) left ∙ nothing_kept p xs (λ y has. none y (Contains-append_right (x ∷ []) xs y has))
    ]

all_of : (p : Row → Bool) (xs : List Row) → ((x : Row) → Contains xs x → p x ≡ true) → list_all p xs ≡ true
all_of p [] all = refl
all_of p (x ∷ xs) all = and_from (p x) (list_all p xs) (all x (0, omega arith, refl)) (all_of p xs (λ y has. all y (Contains-append_right (x ∷ []) xs y has)))

-- ---- where nobody is named

at_most_nothing : (o : Option ℕ) → (is_named o ≡ true → ⊥) → is_at_most o 0 ≡ true
at_most_nothing None none = refl
at_most_nothing (Some own) none = elim (cases_lt 0 own) [
  | inl above ↦ absurd (none (lt-ltb 0 own above))
  | inr zero ↦ le-leb own 0 zero
]

everybody_is : (o : Option ℕ) → is_everybody o ≡ true → o ≡ Some 0
everybody_is None e = absurd (true≢false (sym e))
everybody_is (Some own) e = ap (λ (n : ℕ). Some n) (eqb-true own 0 e)

module _ (rows : List Row) (address : ℕ) where
  abbrev names : Row → Bool
  names row = is_named (weight_of row address)

  everybody_selected : ((row : Row) → Contains rows row → names row ≡ true → ⊥) → (row : Row) → Contains rows row → is_everybody (weight_of row address) ≡ true → Contains (selected rows address) row
  unfolding selected
  everybody_selected none row has all =
      kept_has (λ (other : Row). is_greatest rows address (weight_of other address)) rows row has
      (ap (is_greatest rows address) (everybody_is (weight_of row address) all)
      ∙ all_of (λ (other : Row). is_at_most (weight_of other address) 0) rows (λ other theirs. at_most_nothing (weight_of other address) (none other theirs)))

  module _ (listing : Row → Bool) (none_listed : find listing (selected rows address) ≡ None) where
    -- what mountd asks, and lists the path, names the client
    asked_names : filter listing (asked rows address) ≡ filter (λ row. names row && listing row) rows
    asked_names =
        elim (cases_Bool (list_any names rows)) [
          | inl some ↦
              let row = passing names rows some in
              ap (filter listing) (asked_named rows address row.0 row.1 row.2) ∙ filter-filter listing names rows
          | inr nobody ↦
              let none : (row : Row) → Contains rows row → names row ≡ true → ⊥ = λ row has so. true≢false (sym (list_any_at names rows has.0 row has.1 (ap names has.2 ∙ so)) ∙ nobody) in
              let unlisted : (row : Row) → Contains (for_everybody rows address) row → listing row ≡ true → ⊥ =
              λ row has lists_it.
              let own = has_kept (λ (other : Row). is_everybody (weight_of other address)) rows row has in
              let chosen = everybody_selected none row own.0 own.1 in
              none_passes listing (selected rows address) none_listed (list_any_at listing (selected rows address) chosen.0 row chosen.1 (ap listing chosen.2 ∙ lists_it)) in
              ap (filter listing) (asked_everybody rows address (nothing_kept names rows none))
              ∙ nothing_kept listing (for_everybody rows address) unlisted
              ∙ sym (sym (filter-filter listing names rows) ∙ ap (filter listing) (nothing_kept names rows none))
        ]

-- ---- what is denied since no selected line lists it

record IsUnlisted (content : Content) (address : ℕ) (path : List (List ℕ)) (fs : FsId) : Type 0 where
  here : fs_of content.table path ≡ Some fs.0
  first : Row
  others : List Row
  are : selected (rows_of content fs.0) address ≡ first ∷ others
  none : find (lists content fs.0 path) (first ∷ others) ≡ None

module _ (content : Content) (address : ℕ) (path : List (List ℕ)) (fs : FsId) (line : ℕ) where
  abbrev IsDenied : Result Grant Denial → Type 0
  IsDenied verdict = verdict ≡ Err (NotListed fs line)

  by_found : (f : ℕ) → fs_of content.table path ≡ Some f → (first : Row) (others : List Row) → selected (rows_of content f) address ≡ first ∷ others
      → (o : Option Row) → find (lists content f path) (first ∷ others) ≡ o → IsDenied (granted_by (record { 0 = f }) first o) → IsUnlisted content address path fs
  by_found f here first others are (Some row) found v = cc
  by_found f here first others are None none v =
      let denied : Err (NotListed (record { 0 = f }) first.entry.line) ≡ Err (NotListed fs line) = v in
      let same : record { 0 = f } ≡ fs = cc in
      let number : f ≡ fs.0 = ap (λ (id : FsId). id.0) same in
      record {
        here = here ∙ ap (λ (n : ℕ). Some n) number;
        first = first;
        others = others;
        are = subst (λ (n : ℕ). selected (rows_of content n) address ≡ first ∷ others) number are;
        none = subst (λ (n : ℕ). find (lists content n path) (first ∷ others) ≡ None) number none;
      }

  by_chosen : (f : ℕ) → fs_of content.table path ≡ Some f → (chosen : List Row) → selected (rows_of content f) address ≡ chosen
      → IsDenied (verdict_among (record { 0 = f }) (lists content f path) chosen) → IsUnlisted content address path fs
  by_chosen f here [] are v = cc
  by_chosen f here (first ∷ others) are v = by_found f here first others are (find (lists content f path) (first ∷ others)) refl v

  by_home : (o : Option ℕ) → fs_of content.table path ≡ o → IsDenied (verdict_in content address path o) → IsUnlisted content address path fs
  by_home None here v = cc
  by_home (Some f) here v = by_chosen f here (selected (rows_of content f) address) refl v

  unlisted : IsDenied (verdict_of content address path) → IsUnlisted content address path fs
  unfolding verdict_of
  unlisted v = by_home (fs_of content.table path) refl v

  line_on : (first : Row) (rows : List Row) → granting_line (granted_on fs first rows) ≡ first_number rows
  line_on first [] = refl
  line_on first (row ∷ rows) = refl

  pub not_listed : IsDenied (verdict_of content address path)
      → wider_line (verdict_of content address path) (server_verdict_of content address path) ≡ first_number (selected (filter (is_wider address path) (rows_of content fs.0)) address)
  not_listed v =
      let u = unlisted v in
      let rows = rows_of content fs.0 in
      let listing = lists content fs.0 path in
      ap (λ (r : Result Grant Denial). wider_line r (server_verdict_of content address path)) v
      ∙ ap granting_line (server_here content address path fs.0 u.here ∙ ap (λ (s : List Row). server_verdict_by fs s (granting listing rows address)) u.are)
      ∙ line_on u.first (granting listing rows address)
      ∙ ap (λ (rs : List Row). first_number (selected rs address))
      (asked_names rows address listing (ap (find listing) u.are ∙ u.none)
      ∙ filter_agree (λ row. is_named (weight_of row address) && listing row) (is_wider address path) (λ row. ap (λ (b : Bool). is_named (weight_of row address) && b) (sym (lists_same content fs.0 path u.here row))) rows)

-- ---- what is denied otherwise

nowhere : (content : Content) (address : ℕ) (path : List (List ℕ)) → (o : Option ℕ) → fs_of content.table path ≡ o → verdict_in content address path o ≡ Err NoFileSystem
    → granting_line (server_verdict_in content address path o) ≡ None
nowhere content address path None here v = refl
nowhere content address path (Some fs) here v = placed (selected (rows_of content fs) address) v
  where
    found : (first : Row) (o : Option Row) → granted_by (record { 0 = fs }) first o ≡ Err NoFileSystem → ⊥
    found first None e = cc
    found first (Some row) e = cc

    placed : (chosen : List Row) → verdict_among (record { 0 = fs }) (lists content fs path) chosen ≡ Err NoFileSystem
        → granting_line (server_verdict_by (record { 0 = fs }) chosen (granting (lists content fs path) (rows_of content fs) address)) ≡ None
    placed [] e = refl
    placed (first ∷ others) e = absurd (found first (find (lists content fs path) (first ∷ others)) e)

pub no_file_system : (content : Content) (address : ℕ) (path : List (List ℕ)) → verdict_of content address path ≡ Err NoFileSystem
    → None ≡ wider_line (verdict_of content address path) (server_verdict_of content address path)
unfolding verdict_of server_verdict_of
no_file_system content address path v =
    sym (ap (λ (r : Result Grant Denial). wider_line r (server_verdict_of content address path)) v ∙ nowhere content address path (fs_of content.table path) refl v)

matched : (content : Content) (address : ℕ) (path : List (List ℕ)) (own : FsId) → (o : Option ℕ) → verdict_in content address path o ≡ Err (NoLine own)
    → granting_line (server_verdict_in content address path o) ≡ None
matched content address path own None v = refl
matched content address path own (Some fs) v = placed (selected (rows_of content fs) address) v
  where
    found : (first : Row) (o : Option Row) → granted_by (record { 0 = fs }) first o ≡ Err (NoLine own) → ⊥
    found first None e = cc
    found first (Some row) e = cc

    placed : (chosen : List Row) → verdict_among (record { 0 = fs }) (lists content fs path) chosen ≡ Err (NoLine own)
        → granting_line (server_verdict_by (record { 0 = fs }) chosen (granting (lists content fs path) (rows_of content fs) address)) ≡ None
    placed [] e = refl
    placed (first ∷ others) e = absurd (found first (find (lists content fs path) (first ∷ others)) e)

pub no_line : (content : Content) (address : ℕ) (path : List (List ℕ)) (own : FsId) → verdict_of content address path ≡ Err (NoLine own)
    → None ≡ wider_line (verdict_of content address path) (server_verdict_of content address path)
unfolding verdict_of server_verdict_of
no_line content address path own v =
    sym (ap (λ (r : Result Grant Denial). wider_line r (server_verdict_of content address path)) v ∙ matched content address path own (fs_of content.table path) v)
