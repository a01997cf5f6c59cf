-- The file is made, or it cannot be.
use Rattle.std.proofs.Common.{inl}
use Rattle.cli_write.proofs.CheckedCopy.{not_copied}
use Rattle.cli_write.proofs.copy_command.make_told.Goals as goal

pub returns-in-Ok-None : goal.returns-in-Ok-None
returns-in-Ok-None c = inl c.requires

pub returns-in-Ok-Some : goal.returns-in-Ok-Some
returns-in-Ok-Some c = not_copied c.refuse_taken.result c.refuse_taken.ensures

pub returns-in-Err : goal.returns-in-Err
returns-in-Err c = not_copied c.not_writable.result c.not_writable.ensures
