use Rattle.std.proofs.Common.{◌≡◌, map, take}
use Rattle.serde_json.specs.View.{view}
use Rattle.desk_http_bodies.specs.Exports.{system_data}
use Rattle.desk_http_bodies.proofs.exports.system_values.Given as goal

abbrev pub invariant-loop-system : goal.invariant-loop-system
invariant-loop-system l = map view l.values.items ≡ map (system_data l.policy) (take l.system-index l.shown)
