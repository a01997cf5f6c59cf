-- The law of sorted sets, of the addresses of the rows that have the name.
use Rattle.desk_tables.proofs.HostLawLemmas.{unique_by_sets}
use Rattle.desk_tables.proofs.laws.addresses_are_unique.Goals as goal

pub returns : goal.returns
returns c = unique_by_sets c.sorted_sets_are_unique.ensures
