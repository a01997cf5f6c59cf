use Rattle.std.proofs.Common.{subst}
use Rattle.std.specs.List.Sorted.{IsPermutation}
use Rattle.std.proofs.lemmas.List.Sorted.{IsNonDecreasingBy-from_sort}
use Rattle.desk_expect.proofs.Held.{held_any}
use Rattle.desk_expect.proofs.spans.SpanSet.of.Goals as goal

pub invariant_of-result : goal.invariant_of-result
invariant_of-result c = (
  IsNonDecreasingBy-from_sort (λ n. n) c.sort_unstable.new.self.items c.sort_unstable.ensures.sorted,
  IsNonDecreasingBy-from_sort (λ n. n) c.sort_unstable-2.new.self.items c.sort_unstable-2.ensures.sorted,
)

pub returns : goal.returns
returns c =
    held_any c.args.spans.now c.sort_unstable.new.self.items c.sort_unstable-2.new.self.items
    (subst (λ xs. IsPermutation xs c.sort_unstable.new.self.items) c.in_ok-firsts.ensures c.sort_unstable.ensures.permutation)
    (subst (λ xs. IsPermutation xs c.sort_unstable-2.new.self.items) c.in_ok-lasts.ensures c.sort_unstable-2.ensures.permutation)
