-- The directories of the lines so far are added.
use Rattle.std.proofs.Common.{◌≡◌, ◌++◌, take}
use Rattle.desk_policy.specs.Listings.{written}
use Rattle.desk_impact.specs.Places.{paths_in}
use Rattle.desk_impact.proofs.places.push_written.Given as goal

abbrev pub invariant-loop-row : goal.invariant-loop-row
invariant-loop-row l = paths_in l.paths.items ≡ paths_in l.initial.paths.items ++ written (take l.row-index l.rows)
