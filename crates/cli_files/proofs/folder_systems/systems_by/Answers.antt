-- What `filesystems` has; `mounts` comes after it.
use Rattle.std.proofs.Common.{inl}
use Rattle.cli_files.proofs.FilesInTurn.{lacks_unknown, text_unknown}
use Rattle.cli_files.proofs.folder_systems.systems_by.Goals as goal

pub returns-in-Ok-Some-clause-systems : goal.returns-in-Ok-Some-clause-systems
returns-in-Ok-Some-clause-systems g c = text_unknown _ _ _ _ (rw c.in-Ok-Some.field-0-is at c.in-Ok-Some.ensures.text)

pub returns-in-Err-clause-systems : goal.returns-in-Err-clause-systems
returns-in-Err-clause-systems g c = inl (lacks_unknown _ _ _ _ c.in-Err.ensures.text)
