-- The directory, and the mount points so far that are under it.
use Rattle.std.proofs.Common.{◌≡◌, ◌∷◌, take}
use Rattle.std.specs.Prelude.{filter}
use Rattle.desk_text.specs.Path.{is_under}
use Rattle.desk_tables.specs.FileSystems.{mount_points}
use Rattle.desk_impact.specs.Places.{paths_in}
use Rattle.desk_impact.proofs.sections.roots_below.Given as goal

abbrev pub invariant-loop-mount : goal.invariant-loop-mount
invariant-loop-mount l = paths_in l.roots.items ≡ l.dir ∷ filter (λ one. is_under one l.dir) (mount_points (take l.mount-index l.mount-items))
