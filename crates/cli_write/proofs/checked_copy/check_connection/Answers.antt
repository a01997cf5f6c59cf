-- The desk is opened on a database of this project, or there is none.
use Rattle.sqlite.specs.Files.{file_state}
use Rattle.cli_write.proofs.CheckedCopy.{no_desk_at}
use Rattle.cli_write.proofs.checked_copy.check_connection.Goals as goal

pub returns-in-Ok-clause-ours : goal.returns-in-Ok-clause-ours
returns-in-Ok-clause-ours c = c.in-Ok.ensures.opened.0

pub returns-in-Err-clause-refused : goal.returns-in-Err-clause-refused
returns-in-Err-clause-refused c = no_desk_at c.args.db.now (file_state c.args.conn).committed c.in-Err.answer c.in-Err.ensures.refused
