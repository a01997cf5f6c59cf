-- The copy is checked before its file is made.
use Rattle.std.proofs.Common.{inl, inr}
use Rattle.sqlite.specs.Files.{file_state}
use Rattle.cli_write.proofs.copy_command.copy_connection.Goals as goal

pub returns-in-Ok : goal.returns-in-Ok
returns-in-Ok c = inr ((file_state c.args.conn).committed.trees, c.in-Ok.bytes.items, c.in-Ok.ensures.copy, c.write_copy.ensures)

pub returns-in-Err : goal.returns-in-Err
returns-in-Err c = inl c.in-Err.ensures.refused
