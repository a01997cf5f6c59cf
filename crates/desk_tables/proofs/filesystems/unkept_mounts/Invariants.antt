use Rattle.std.proofs.Common.{◌≡◌, map}
use Rattle.desk_tables.specs.FileSystems.{unkept}
use Rattle.desk_tables.proofs.filesystems.unkept_mounts.Given as goal

abbrev pub invariant-loop-path : goal.invariant-loop-path
invariant-loop-path l = l.mounts ≡ map unkept l.yielded
