-- The changes of the places so far.
use Rattle.std.proofs.Common.{◌≡◌, map, take}
use Rattle.std.specs.List.{flat_map}
use Rattle.serde_json.specs.View.{view}
use Rattle.desk_impact.specs.ListedChanges.{listed_place}
use Rattle.desk_json.specs.Changes.{place_data}
use Rattle.desk_json.proofs.changes.change_values.Given as goal

abbrev pub invariant-loop-place : goal.invariant-loop-place
invariant-loop-place l = map view l.values.items ≡ flat_map (place_data l.before l.after l.all) (map listed_place (take l.place-index l.found))
