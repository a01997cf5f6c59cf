use Rattle.desk_text.specs.Address.{number_of}
use Rattle.desk_text.proofs.SortedSets.{once_ascends, once_is}
use Rattle.desk_text.proofs.addr_set.AddrSet.from_vec.Goals as goal

pub invariant_of-result : goal.invariant_of-result
invariant_of-result c = once_ascends number_of _ _ c.sort_unstable.ensures.sorted c.dedup.ensures.filtered

pub returns : goal.returns
returns c = once_is number_of _ _ _ c.sort_unstable.ensures.permutation c.sort_unstable.ensures.sorted c.dedup.ensures.filtered
