-- Lines found by their numbers.
use Rattle.std.proofs.Common.{◌≡◌, ◌∙◌, ℕ, ◌+◌, ◌++◌, ◌<◌, Bool, true, false, ltb, List, [], ◌∷◌, Some, ap, arith, get_or, inl, inr, length, refl, sym, take}
use Rattle.std.specs.Prelude.{find, slice_get}
use Rattle.std.specs.List.{All, Contains, cons_option, filter_map}
use Rattle.std.specs.List.Sorted.{IsPartitionPoint, IsPartitionedBy}
use Rattle.std.proofs.lemmas.Bool.{cases_lt, cases_order, lt-ltb, ltb-false, ltb-true}
use Rattle.std.proofs.lemmas.List.{get_or-map, take_more}
use Rattle.std.proofs.lemmas.List.Elements.{All-contains_itself, All-filter, All-get_or, All-head, All-tail}
use Rattle.std.proofs.lemmas.Option.{slice_get-get_or}
use Rattle.desk_policy.specs.Policy.{AreAscending}
use Rattle.desk_policy.specs.Weights.{is_greatest, selected, weight_of}
use Rattle.desk_policy.specs.declared.row.Row.{Row}
use Rattle.desk_index.specs.Keys.{numbers}
use Rattle.desk_index.specs.PrivateNumbered.{rows_numbered}
use Rattle.desk_index.proofs.LinesByNumber.{find_line, is_numbered}

abbrev pub is_before : ℕ → Row → Bool
is_before line row = ltb row.entry.line line

pub parted : (rows : List Row) → AreAscending rows → (line : ℕ) → IsPartitionedBy (is_before line) rows
parted rows ascending line i j d le within here =
    let lt = ltb-true (get_or rows j d).entry.line line here in
    elim (cases_lt i j) [
      | inl less ↦ lt-ltb (get_or rows i d).entry.line line (let up = ascending i j d less within in omega arith)
      | inr more ↦ (let same : i ≡ j = omega arith in ap (λ k. is_before line (get_or rows k d)) same ∙ here)
    ]

-- the line of a number is at the first place that is not before it
pub at_place : (rows : List Row) → AreAscending rows → (line place : ℕ) → IsPartitionPoint (λ row. is_before line row ≡ true) (λ row. is_before line row ≡ false) rows place
    → (row : Row) → Contains rows row → row.entry.line ≡ line → slice_get rows place ≡ Some row
at_place rows ascending line place point row has number =
    let j = has.0 in
    let own = ap (λ (r : Row). r.entry.line) has.2 in
    elim (cases_order j place) [
      | inl same ↦ ap (slice_get rows) (sym same) ∙ slice_get-get_or rows j row has.1 ∙ ap Some has.2
      | inr s ↦ elim s [
        | inl less ↦ (let lt = ltb-true (get_or rows j row).entry.line line (point.0 j row (omega arith) less) in absurd (omega arith))
        | inr more ↦
            let within : place < length rows = (let b = has.1 in omega arith) in
            let le = ltb-false (get_or rows place row).entry.line line (point.1 place row (omega arith) within) in
            let up = ascending place j row more has.1 in
            absurd (omega arith)
      ]
    ]

-- ---- lines of a list by their numbers

-- the line at a place of lines, by its number
pub record Item (rows chosen : List Row) (i line : ℕ) : Type 0 where
  pub row : Row
  pub has : Contains rows row
  pub number : row.entry.line ≡ line
  pub next : take (i + 1) chosen ≡ take i chosen ++ row ∷ []

pub item : (rows chosen : List Row) (lines : List ℕ) (i : ℕ) → lines ≡ numbers chosen → All (Contains rows) chosen → i < length chosen → Item rows chosen i (get_or lines i 0)
item rows [] lines i are all within = absurd (omega arith)
item rows (first ∷ others) lines i are all within =
    let chosen : List Row = first ∷ others in
    let row : Row = get_or chosen i first in
    record {
      row = row;
      has = All-get_or (Contains rows) chosen i first within all;
      number = sym (get_or-map (λ (r : Row). r.entry.line) chosen i first 0 within) ∙ ap (λ (ns : List ℕ). get_or ns i 0) (sym are);
      next = take_more chosen i first within;
    }

-- the numbers of lines lead back to them
pub numbered_chosen : (rows : List Row) → AreAscending rows → (chosen : List Row) → All (Contains rows) chosen → rows_numbered rows (numbers chosen) ≡ chosen
numbered_chosen rows ascending [] all = refl
numbered_chosen rows ascending (row ∷ chosen) all =
    let has = All-head (Contains rows) row chosen all in
    let found : find (is_numbered row.entry.line) rows ≡ Some row = find_line rows ascending has.0 row has.1 (sym has.2) row.entry.line refl in
    ap (λ o. cons_option o (filter_map (λ number. find (is_numbered number) rows) (numbers chosen))) found ∙ ap (λ (rs : List Row). row ∷ rs) (numbered_chosen rows ascending chosen (All-tail (Contains rows) row chosen all))

-- the selected lines are lines
pub selected_among : (rows : List Row) (address : ℕ) → All (Contains rows) (selected rows address)
unfolding selected
selected_among rows address = All-filter (λ row. is_greatest rows address (weight_of row address)) (Contains rows) rows (All-contains_itself rows)
