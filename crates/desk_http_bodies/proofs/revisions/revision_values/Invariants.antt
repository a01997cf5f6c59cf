use Rattle.std.proofs.Common.{◌≡◌, map, take}
use Rattle.serde_json.specs.View.{view}
use Rattle.desk_http_bodies.specs.Revisions.{revision_data}
use Rattle.desk_http_bodies.proofs.revisions.revision_values.Given as goal

abbrev pub invariant-loop-revision : goal.invariant-loop-revision
invariant-loop-revision l = map view l.values.items ≡ map revision_data (take l.revision-index l.revisions)
