-- The directories of the file systems so far are added.
use Rattle.std.proofs.Common.{◌≡◌, ◌++◌, take}
use Rattle.std.specs.List.{flat_map}
use Rattle.desk_policy.specs.Listings.{written}
use Rattle.desk_impact.specs.Places.{paths_in}
use Rattle.desk_impact.proofs.places.push_all_written.Given as goal

abbrev pub invariant-loop-rows : goal.invariant-loop-rows
invariant-loop-rows l = paths_in l.paths.items ≡ paths_in l.initial.paths.items ++ flat_map written (take l.rows-index l.rows-items)
