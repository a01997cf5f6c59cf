-- A database that is not opened is told.
use Rattle.std.proofs.Common.{inl}
use Rattle.cli_write.proofs.copy_command.copy_database.Goals as goal

pub returns-in-Err : goal.returns-in-Err
returns-in-Err c = inl c.unopened.ensures
