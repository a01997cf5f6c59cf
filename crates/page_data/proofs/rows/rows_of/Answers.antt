use Rattle.std.proofs.Common.{◌∙◌, ℕ, List, map, rules, subst, sym}
use Rattle.std.specs.Prelude.{Contains}
use Rattle.std.specs.List.Sorted.{IsNonDecreasingBy, IsPermutation, IsStableByKey}
use Rattle.std.specs.Ordering.{nat_cmp}
use Rattle.std.proofs.lemmas.Fn.{always_returns_same}
use Rattle.std.proofs.lemmas.List.{take_all}
use Rattle.std.proofs.lemmas.List.Sorted.{Contains-permutation, IsNonDecreasingBy-from_sort_by_key, IsPermutation-sym}
use Rattle.desk_policy.specs.declared.verdict.Verdict.{Verdict as KeptVerdict}
use Rattle.desk_who.specs.Who.{range_value}
use Rattle.desk_who.specs.declared.runs.Run.{Run as KeptRun}
use Rattle.page_data.specs.Rows.{order_of, row_value}
use Rattle.page_data.proofs.AllRows.{all_rows}
use Rattle.page_data.proofs.Rowed.{Rowed}
use Rattle.page_data.proofs.Stepping.{one_more}
use Rattle.page_data.proofs.rows.rows_of.Goals as goal

abbrev key : KeptRun KeptVerdict → ℕ
key range = order_of (range_value range).value

pub loop-range-preserved : goal.loop-range-preserved
loop-range-preserved c = λ compare.
    let items = c.as_slice-range-items.result.now in
    let given = c.args.ranges.now in
    let sorted = c.sort_by_key.new.self.items in
    let moved : IsPermutation given sorted = subst (λ xs. IsPermutation xs sorted) c.in_ok-sorted.ensures.items c.in_ok-sort_by_key.ensures.permutation in
    one_more compare range_value given items c.requires
    (λ x has. Contains-permutation sorted given x (IsPermutation-sym given sorted moved) (subst (λ xs. Contains xs x) c.as_slice-range-items.ensures.value has))
    (subst (λ (xs : List (KeptRun KeptVerdict)). IsNonDecreasingBy key xs) (sym c.as_slice-range-items.ensures.value) (IsNonDecreasingBy-from_sort_by_key key sorted c.in_ok-sort_by_key.ensures.sorted (λ a r q k. search rules)))
    c.loop-range.range-index c.range-item.result c.loop-range-test.true c.range-item.is (map row_value c.loop-range.rows.items) (map row_value c.push_range.new.rows.items) (c.loop-range.invariant compare) c.in_ok-push_range.ensures

pub returns : goal.returns
returns c =
    let items = c.as_slice-range-items.result.now in
    let given = c.args.ranges.now in
    let sorted = c.sort_by_key.new.self.items in
    let moved : IsPermutation given sorted = subst (λ xs. IsPermutation xs sorted) c.in_ok-sorted.ensures.items c.in_ok-sort_by_key.ensures.permutation in
    let compare = c.verdicts_are_discrete.ensures in
    let stable = subst (λ xs. IsStableByKey key nat_cmp xs sorted) c.in_ok-sorted.ensures.items (c.sort_by_key.ensures.stable key (always_returns_same _ _ _ (λ a r q k. search rules))) in
    all_rows compare range_value given sorted c.requires stable
    (λ x has. Contains-permutation sorted given x (IsPermutation-sym given sorted moved) has) (λ x has. Contains-permutation given sorted x moved has) (map row_value c.loop-range.rows.items)
    (subst (λ xs. Rowed compare (map range_value xs) (map row_value c.loop-range.rows.items)) (take_all c.loop-range.range-index items c.loop-range-test.false ∙ c.as_slice-range-items.ensures.value) (c.loop-range.invariant compare))
