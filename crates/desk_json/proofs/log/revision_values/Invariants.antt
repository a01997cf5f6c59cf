-- The revisions so far.
use Rattle.std.proofs.Common.{◌≡◌, map, take}
use Rattle.serde_json.specs.View.{view}
use Rattle.desk_json.specs.Log.{revision_data}
use Rattle.desk_json.proofs.log.revision_values.Given as goal

abbrev pub invariant-loop-revision : goal.invariant-loop-revision
invariant-loop-revision l = map view l.values.items ≡ map (revision_data l.name) (take l.revision-index l.revisions)
