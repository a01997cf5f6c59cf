-- The mount point, and the directories so far that are below it.
use Rattle.std.proofs.Common.{◌≡◌, ◌∷◌, map, take}
use Rattle.desk_impact.specs.Places.{Directory, paths_in, place_of}
use Rattle.page_places.specs.Directories.{below}
use Rattle.page_places.proofs.directories.places_with.Given as goal

abbrev pub invariant-loop-dir : goal.invariant-loop-dir
invariant-loop-dir l = map place_of l.places.items ≡ Directory l.mount ∷ map Directory (below l.mount (paths_in (take l.dir-index l.dirs)))
