-- The law of sorted sets, of the numbers that the names write.
use Rattle.desk_policy.proofs.RowAddresses.{unique_by_sets}
use Rattle.desk_policy.proofs.laws.addresses_are_unique.Goals as goal

pub returns : goal.returns
returns c = unique_by_sets c.sorted_sets_are_unique.ensures
