-- The rows of a table hold every address once.
use Rattle.std.proofs.Common.{◌≡◌, ℕ, ◌<◌, ◌^◌, ◌∙◌, true, List, [], ap, arith, get_or, inl, inr, length, map, sym}
use Rattle.std.specs.Prelude.{Contains, Result}
use Rattle.std.specs.List.{list_any}
use Rattle.std.proofs.lemmas.Bool.{and_parts, cases_order, leb-true}
use Rattle.std.proofs.lemmas.List.{get_or-map, get_or_default, length-map}
use Rattle.std.proofs.lemmas.List.Elements.{All-contains, All-from_recursion, Contains-get_or}
use Rattle.std.proofs.lemmas.List.Folds.{Any-from_list_any}
use Rattle.desk_policy.specs.Verdict.{Grant}
use Rattle.desk_policy.specs.declared.verdict.Denial.{Denial}
use Rattle.desk_who.specs.Runs.{AreRuns, HasValue, Run, holds}
use Rattle.page_data.specs.Laws.{IsHeldOnce, RowsHoldEachAddressOnce, row_holds}
use Rattle.page_data.specs.Rows.{AreRowsOf, HasRow, IsRowOf, RowValue, order_of}
use Rattle.page_data.proofs.Filtered.{both_in, some_in}

abbrev Verdict : Type 0
Verdict = Result Grant Denial

module _ (verdict_at : ℕ → Verdict) (ranges : List (Run Verdict)) (rows : List RowValue) (are : AreRuns verdict_at ranges) (of : AreRowsOf ranges rows) (address : ℕ) (fits : address < 2 ^ 32) where
  own : (range : Run Verdict) → Contains ranges range → holds address range ≡ true → verdict_at address ≡ range.value
  own range has here =
      let value : HasValue verdict_at range = All-contains (HasValue verdict_at) ranges range (All-from_recursion (HasValue verdict_at) ranges are.values) has in
      let p = and_parts _ _ here in
      value.values address (leb-true range.first address p.0) (leb-true address range.last p.1)

  -- rows of one verdict are one
  one_row : (row other : RowValue) → Contains rows row → Contains rows other → row.verdict ≡ other.verdict → other ≡ row
  one_row row other has has' same =
      let left : get_or rows has'.0 row ≡ other = get_or_default rows has'.0 row other has'.1 ∙ has'.2 in
      elim (cases_order has.0 has'.0) as (λ _. other ≡ row) [
        | inl at ↦ sym has'.2 ∙ get_or_default rows has'.0 other row has'.1 ∙ ap (λ n. get_or rows n row) (sym at) ∙ has.2
        | inr apart ↦ elim apart as (λ _. other ≡ row) [
          | inl less ↦ absurd (let up = of.order has.0 has'.0 row less has'.1 in omega (arith, ap (λ (r : RowValue). order_of r.verdict) has.2, ap (λ (r : RowValue). order_of r.verdict) left, ap order_of same))
          | inr more ↦ absurd (let up = of.order has'.0 has.0 row more has.1 in omega (arith, ap (λ (r : RowValue). order_of r.verdict) has.2, ap (λ (r : RowValue). order_of r.verdict) left, ap order_of same))
        ]
      ]

  -- the verdict of a row that holds the address
  held_own : (row : RowValue) → Contains rows row → row_holds address row ≡ true → row.verdict ≡ verdict_at address
  held_own row has held =
      let those : IsRowOf ranges row = All-contains (IsRowOf ranges) rows row of.each has in
      let both = both_in those.test (holds address) ranges (sym (ap (list_any (holds address)) those.are) ∙ held) in
      sym (own both.value both.has both.passed ∙ (those.decides both.value).0 both.tested)

  pub held_once : IsHeldOnce rows address (verdict_at address)
  held_once =
      let any = Any-from_list_any (holds address) ranges (are.complete address fits) in
      let range : Run Verdict = any.1 in
      let has : Contains ranges range = (any.0, any.2, any.3) in
      let here : holds address range ≡ true = any.4 in
      let listed : HasRow rows range = All-contains (HasRow rows) ranges range of.all has in
      let nothing : RowValue = record { verdict = range.value; ranges = [] } in
      let few : length (map (λ (r : RowValue). r.verdict) rows) ≡ length rows = length-map rows (λ (r : RowValue). r.verdict) in
      let within : listed.0 < length rows = (let l = listed.1 in omega arith) in
      let row = get_or rows listed.0 nothing in
      let verdict : row.verdict ≡ range.value = sym (get_or-map (λ (r : RowValue). r.verdict) rows listed.0 nothing range.value within) ∙ listed.2 in
      let has_row : Contains rows row = Contains-get_or rows listed.0 nothing within in
      let those : IsRowOf ranges row = All-contains (IsRowOf ranges) rows row of.each has_row in
      let is_own : row.verdict ≡ verdict_at address = verdict ∙ sym (own range has here) in
      record {
        row = row;
        listed = has_row;
        held = ap (list_any (holds address)) those.are ∙ some_in those.test (holds address) ranges range has ((those.decides range).1 (sym verdict)) here;
        own = is_own;
        only = λ other has_other held. one_row row other has_row has_other (is_own ∙ sym (held_own other has_other held));
      }

pub rows_hold_each_address_once : RowsHoldEachAddressOnce
rows_hold_each_address_once verdict_at ranges rows are of address fits = held_once verdict_at ranges rows are of address fits
