-- The ranges so far.
use Rattle.std.proofs.Common.{◌≡◌, map, take}
use Rattle.serde_json.specs.View.{view}
use Rattle.desk_who.specs.Who.{range_value}
use Rattle.desk_json.specs.Named.{named_range}
use Rattle.desk_json.proofs.named.named_ranges.Given as goal

abbrev pub invariant-loop-range : goal.invariant-loop-range
invariant-loop-range l = map view l.values.items ≡ map (named_range l.policy) (map range_value (take l.range-index l.ranges))
