-- Those of the directories so far that are in the file system are added.
use Rattle.std.proofs.Common.{◌≡◌, ◌++◌, take}
use Rattle.desk_impact.specs.Places.{paths_in}
use Rattle.page_places.specs.Directories.{own_of}
use Rattle.page_places.proofs.directories.push_own_of_line.Given as goal

abbrev pub invariant-loop-path : goal.invariant-loop-path
invariant-loop-path l = paths_in l.dirs.items ≡ paths_in l.initial.dirs.items ++ own_of l.table l.fs.0 (take l.path-index l.paths)
