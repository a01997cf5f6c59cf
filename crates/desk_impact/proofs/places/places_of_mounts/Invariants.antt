-- The places of the mount points so far.
use Rattle.std.proofs.Common.{◌≡◌, map, take}
use Rattle.std.specs.List.{flat_map}
use Rattle.desk_impact.specs.Places.{paths_in, place_of, places_at}
use Rattle.desk_impact.proofs.places.places_of_mounts.Given as goal

abbrev pub invariant-loop-mount : goal.invariant-loop-mount
invariant-loop-mount l = map place_of l.places.items ≡ flat_map (places_at (paths_in l.mounts) (paths_in l.dirs)) (paths_in (take l.mount-index l.mounts))
