-- The numbers of the ranges so far.
use Rattle.std.proofs.Common.{◌≡◌, take}
use Rattle.std.specs.List.{flat_map}
use Rattle.desk_who.specs.Who.{range_value}
use Rattle.page_data.specs.PrivateGroups.{numbers_of}
use Rattle.page_data.proofs.groups.key_of.Given as goal

abbrev pub invariant-loop-range : goal.invariant-loop-range
invariant-loop-range l = l.key.items ≡ flat_map (λ range. numbers_of (range_value range)) (take l.range-index l.ranges)
