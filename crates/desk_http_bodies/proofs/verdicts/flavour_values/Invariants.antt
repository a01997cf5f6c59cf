use Rattle.std.proofs.Common.{◌≡◌, map, take}
use Rattle.serde_json.specs.View.{view}
use Rattle.desk_http_bodies.specs.Verdicts.{flavour_data}
use Rattle.desk_http_bodies.proofs.verdicts.flavour_values.Given as goal

abbrev pub invariant-loop-flavour : goal.invariant-loop-flavour
invariant-loop-flavour l = map view l.values.items ≡ map flavour_data (take l.flavour-index l.flavours)
