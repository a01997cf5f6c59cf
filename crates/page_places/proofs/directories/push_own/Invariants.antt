-- Those of the lines so far are added.
use Rattle.std.proofs.Common.{◌≡◌, ◌++◌, take}
use Rattle.desk_policy.specs.Listings.{written}
use Rattle.desk_impact.specs.Places.{paths_in}
use Rattle.page_places.specs.Directories.{own_of}
use Rattle.page_places.proofs.directories.push_own.Given as goal

abbrev pub invariant-loop-row : goal.invariant-loop-row
invariant-loop-row l = paths_in l.dirs.items ≡ paths_in l.initial.dirs.items ++ own_of l.table l.fs.0 (written (take l.row-index l.rows))
