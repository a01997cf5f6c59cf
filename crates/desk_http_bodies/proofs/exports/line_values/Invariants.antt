use Rattle.std.proofs.Common.{◌≡◌, map, take}
use Rattle.serde_json.specs.View.{view}
use Rattle.desk_http_bodies.specs.Json.{count}
use Rattle.desk_http_bodies.proofs.exports.line_values.Given as goal

abbrev pub invariant-loop-line : goal.invariant-loop-line
invariant-loop-line l = map view l.values.items ≡ map count (take l.line-index l.lines)
