-- The changes so far were added.
use Rattle.std.proofs.Common.{◌≡◌, ◌++◌, map, take}
use Rattle.serde_json.specs.View.{view}
use Rattle.desk_impact.specs.ListedChanges.{listed_change}
use Rattle.desk_impact.specs.Places.{place_of}
use Rattle.desk_json.specs.Changes.{changes_at}
use Rattle.desk_json.proofs.changes.push_changes.Given as goal

abbrev pub invariant-loop-one : goal.invariant-loop-one
invariant-loop-one l = map view l.values.items ≡ map view l.fn.values.items ++ changes_at l.before l.after l.all (place_of l.place) (map listed_change (take l.one-index l.changes))
