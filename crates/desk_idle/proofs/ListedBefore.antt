-- Wherever a line is selected that decides nothing, an earlier selected line lists each path that it lists.
use Rattle.std.proofs.Common.{◌≡◌, ◌∙◌, ℕ, ◌+◌, ◌<◌, ◌^◌, ◌++◌, suc, Bool, true, List, ◌∷◌, Option, Some, None, ap, arith, get_or, inl, inr, length, refl, subst, sym}
use Rattle.std.specs.Prelude.{find}
use Rattle.std.specs.List.{Contains, list_any}
use Rattle.std.proofs.lemmas.Bool.{true≢false}
use Rattle.std.proofs.lemmas.List.{get_or-append-add, get_or_at, length-append}
use Rattle.std.proofs.lemmas.List.Elements.{Contains-append_cases}
use Rattle.std.proofs.lemmas.List.Folds.{list_any_at}
use Rattle.std.proofs.lemmas.List.Kept.{AllPairs-filter}
use Rattle.desk_tables.specs.FileSystems.{fs_of}
use Rattle.desk_policy.specs.Policy.{AreAscending, Content, rows_of}
use Rattle.desk_policy.specs.Verdict.{lists, verdict_among}
use Rattle.desk_policy.specs.Weights.{is_greatest, selected, weight_of}
use Rattle.desk_policy.specs.declared.row.Row.{Row}
use Rattle.desk_idle.specs.Idle.{DecidesNothing, names_line}
use Rattle.desk_idle.specs.Laws.{IdleLinesAreListedBefore, IsListedBefore}
use Rattle.desk_idle.proofs.Bringing.{verdict_is}
use Rattle.desk_idle.proofs.Lists.{in_middle}
use Rattle.desk_idle.proofs.Looks.{first_or, none_passes}
use Rattle.desk_idle.proofs.Naming.{Found, first_to_list, split_at_found}

selected_ascend : (rows : List Row) (address : ℕ) → AreAscending rows → AreAscending (selected rows address)
unfolding selected
selected_ascend rows address ascending =
    AllPairs-filter (λ (row : Row) (later : Row). row.entry.line < later.entry.line) (λ row. is_greatest rows address (weight_of row address)) rows ascending

passes : (p : Row → Bool) (rows : List Row) (row : Row) → Contains rows row → p row ≡ true → list_any p rows ≡ true
passes p rows row has e = list_any_at p rows has.0 row has.1 (ap p has.2 ∙ e)

-- of lines that ascend those behind one have greater numbers
behind : (earlier : List Row) (row : Row) (later : List Row) (other : Row) → AreAscending (earlier ++ row ∷ later) → Contains later other → row.entry.line < other.entry.line
behind earlier row later other ascending has =
    let all : List Row = earlier ++ row ∷ later in
    let k = has.0 in
    let first : get_or all (length earlier) other ≡ row = get_or_at earlier row later other (length earlier) refl in
    let second : get_or all (length earlier + (k + 1)) other ≡ other = get_or-append-add earlier (row ∷ later) (k + 1) other ∙ at_next k has.2 in
    let few = length-append earlier (row ∷ later) in
    let within = has.1 in
    let up = ascending (length earlier) (length earlier + (k + 1)) other (omega arith) (omega arith) in
    let a = ap (λ (r : Row). r.entry.line) first in
    let b = ap (λ (r : Row). r.entry.line) second in
    omega arith
  where
    at_next : (k : ℕ) → get_or later k other ≡ other → get_or (row ∷ later) (k + 1) other ≡ other
    at_next k e = (let next : k + 1 ≡ suc k = omega arith in ap (λ n. get_or (row ∷ later) n other) next ∙ e)

module _ (content : Content) (fs : ℕ) (row : Row) (ascending : AreAscending (rows_of content fs)) (nothing : DecidesNothing content fs row.entry.line) (address : ℕ) (path : List (List ℕ)) (below : address < 2 ^ 32)
    (here : fs_of content.table path ≡ Some fs) (chosen : Contains (selected (rows_of content fs) address) row) (listed : lists content fs path row ≡ true) where
  abbrev listing : Row → Bool
  listing = lists content fs path

  abbrev among : List Row
  among = selected (rows_of content fs) address

  -- the line is not the first to list the path
  not_first : (y : Row) → Found listing among y → (y ≡ row → ⊥)
  not_first y found same = nothing (record {
    address = address;
    path = path;
    is_address = below;
    here = here;
    names = ap (names_line row.entry.line) (verdict_is content fs address path here ∙ ap (verdict_among (record { 0 = fs }) listing) found.are)
        ∙ ap (λ (r : Row). names_line r.entry.line (verdict_among (record { 0 = fs }) listing (found.earlier ++ y ∷ found.later))) (sym same)
        ∙ first_to_list (record { 0 = fs }) listing found.earlier y found.later found.before found.passes;
  })

  is_earlier : (y : Row) → (found : Found listing among y) → y.entry.line < row.entry.line
  is_earlier y found =
      let all : Contains (found.earlier ++ y ∷ found.later) row = subst (λ (rs : List Row). Contains rs row) found.are chosen in
      elim (Contains-append_cases found.earlier (y ∷ found.later) row all) [
        | inl before ↦ absurd (true≢false (sym (passes listing found.earlier row before listed) ∙ found.before))
        | inr rest ↦ elim (first_or y found.later row rest) [
          | inl same ↦ absurd (not_first y found same)
          | inr later ↦ behind found.earlier y found.later row (subst AreAscending found.are (selected_ascend (rows_of content fs) address ascending)) later
        ]
      ]

  by_found : (o : Option Row) → find listing among ≡ o → IsListedBefore content fs address path row.entry.line
  by_found None e = absurd (none_passes listing among e (passes listing among row chosen listed))
  by_found (Some y) e =
      let found = split_at_found listing among y e in
      record {
        row = y;
        chosen = subst (λ (rs : List Row). Contains rs y) (sym found.are) (in_middle found.earlier y found.later);
        earlier = is_earlier y found;
        listed = found.passes;
      }

  pub before : IsListedBefore content fs address path row.entry.line
  before = by_found (find listing among) refl

pub idle_lines_are_listed_before : IdleLinesAreListedBefore
idle_lines_are_listed_before content fs row ascending nothing address path below here chosen listed = before content fs row ascending nothing address path below here chosen listed
