-- The ranges so far.
use Rattle.std.proofs.Common.{◌≡◌, map, take}
use Rattle.std.specs.List.{sum_by}
use Rattle.desk_who.specs.Who.{range_value}
use Rattle.page_data.specs.PrivateTables.{denied_in}
use Rattle.page_data.proofs.tables.denied_among.Given as goal

abbrev pub invariant-loop-range : goal.invariant-loop-range
invariant-loop-range l = l.count ≡ sum_by denied_in (map range_value (take l.range-index l.ranges))
