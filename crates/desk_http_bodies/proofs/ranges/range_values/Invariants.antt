use Rattle.std.proofs.Common.{◌≡◌, map, take}
use Rattle.serde_json.specs.View.{view}
use Rattle.desk_who.specs.Who.{range_value}
use Rattle.desk_http_bodies.specs.Ranges.{range_data}
use Rattle.desk_http_bodies.proofs.ranges.range_values.Given as goal

abbrev pub invariant-loop-range : goal.invariant-loop-range
invariant-loop-range l = map view l.values.items ≡ map (range_data l.policy) (map range_value (take l.range-index l.ranges))
