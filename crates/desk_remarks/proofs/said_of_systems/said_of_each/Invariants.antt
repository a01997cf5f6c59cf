-- What is said of the file systems so far.
use Rattle.std.proofs.Common.{take}
use Rattle.std.specs.List.{AllZip}
use Rattle.desk_tables.specs.FileSystems.{fs_of}
use Rattle.desk_tables.specs.declared.filesystems.Mount.{Mount}
use Rattle.desk_remarks.specs.SaidOfSystems.{IsSaidIn}
use Rattle.desk_remarks.specs.declared.said_of_systems.Said.{Said}
use Rattle.desk_remarks.proofs.said_of_systems.said_of_each.Given as goal

abbrev pub invariant-loop-mount : goal.invariant-loop-mount
invariant-loop-mount l = AllZip (λ (mount : Mount) (said : Said). IsSaidIn l.index (fs_of l.index.table mount.path) said) (take l.mount-index l.mounts) l.saids
