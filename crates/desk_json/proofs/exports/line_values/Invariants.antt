-- The lines of the file systems so far.
use Rattle.std.proofs.Common.{◌≡◌, map}
use Rattle.std.specs.List.{flat_map, range_with_len}
use Rattle.serde_json.specs.View.{view}
use Rattle.desk_json.specs.Exports.{system_lines}
use Rattle.desk_json.proofs.exports.line_values.Given as goal

abbrev pub invariant-loop-place : goal.invariant-loop-place
invariant-loop-place l = map view l.values.items ≡ flat_map (system_lines l.policy) (range_with_len 0 l.place)
