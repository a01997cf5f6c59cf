-- The mount point, and the directories so far that are below it.
use Rattle.std.proofs.Common.{◌≡◌, ◌++◌, ◌∷◌, map, take}
use Rattle.desk_impact.specs.Places.{Directory, dirs_below, paths_in, place_of}
use Rattle.desk_impact.proofs.places.push_places.Given as goal

abbrev pub invariant-loop-dir : goal.invariant-loop-dir
invariant-loop-dir l =
    map place_of l.places.items
    ≡ map place_of l.fn.places.items ++ Directory l.mount ∷ map Directory (dirs_below (paths_in l.mounts) (paths_in (take l.dir-index l.dirs)) l.mount)
