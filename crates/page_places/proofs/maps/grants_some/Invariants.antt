-- None of the ranges so far grants.
use Rattle.std.proofs.Common.{◌≡◌, false, map, take}
use Rattle.desk_who.specs.Who.{range_value}
use Rattle.page_places.specs.Maps.{grants_some}
use Rattle.page_places.proofs.maps.grants_some.Given as goal

abbrev pub invariant-loop-range : goal.invariant-loop-range
invariant-loop-range l = grants_some (map range_value (take l.range-index l.ranges)) ≡ false
