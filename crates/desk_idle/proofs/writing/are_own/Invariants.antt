-- The directories so far are of the file system.
use Rattle.std.proofs.Common.{◌≡◌, All, Some, take}
use Rattle.desk_tables.specs.FileSystems.{fs_of}
use Rattle.desk_idle.proofs.writing.are_own.Given as goal

abbrev pub invariant-loop-dir : goal.invariant-loop-dir
invariant-loop-dir l = All (λ dir. fs_of l.table dir ≡ Some l.fs.0) (take l.dir-index l.dirs)
