-- The paths so far are added.
use Rattle.std.proofs.Common.{◌≡◌, ◌++◌, take}
use Rattle.desk_impact.specs.Places.{paths_in}
use Rattle.desk_impact.proofs.places.push_paths.Given as goal

abbrev pub invariant-loop-dir : goal.invariant-loop-dir
invariant-loop-dir l = paths_in l.paths.items ≡ paths_in l.initial.paths.items ++ take l.dir-index l.dirs
