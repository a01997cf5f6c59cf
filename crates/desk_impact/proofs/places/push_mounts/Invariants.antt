-- The mount points so far are added.
use Rattle.std.proofs.Common.{◌≡◌, ◌++◌, take}
use Rattle.desk_tables.specs.FileSystems.{mount_points}
use Rattle.desk_impact.specs.Places.{paths_in}
use Rattle.desk_impact.proofs.places.push_mounts.Given as goal

abbrev pub invariant-loop-mount : goal.invariant-loop-mount
invariant-loop-mount l = paths_in l.paths.items ≡ paths_in l.initial.paths.items ++ mount_points (take l.mount-index l.mounts)
