use Rattle.std.proofs.Common.{◌≡◌, map, take}
use Rattle.serde_json.specs.View.{view}
use Rattle.desk_http_bodies.specs.Exports.{dir_data}
use Rattle.desk_http_bodies.proofs.exports.dir_values.Given as goal

abbrev pub invariant-loop-dir : goal.invariant-loop-dir
invariant-loop-dir l = map view l.values.items ≡ map dir_data (take l.dir-index l.dirs)
