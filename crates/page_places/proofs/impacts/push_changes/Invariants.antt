-- The changes so far are added.
use Rattle.std.proofs.Common.{◌≡◌, ◌++◌, map, take}
use Rattle.desk_impact.specs.Impact.{change_value}
use Rattle.desk_impact.specs.Places.{place_of}
use Rattle.page_places.specs.Changes.{each_with, row_value}
use Rattle.page_places.proofs.impacts.push_changes.Given as goal

abbrev pub invariant-loop-change : goal.invariant-loop-change
invariant-loop-change l =
    map row_value l.rows.items ≡ map row_value l.initial.rows.items ++ each_with (place_of l.place) (map change_value (take l.change-index l.changes))
