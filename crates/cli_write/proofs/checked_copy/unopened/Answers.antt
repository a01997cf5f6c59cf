-- SQLite does not open it.
use Rattle.cli_write.proofs.CheckedCopy.{not_opened}
use Rattle.cli_write.proofs.checked_copy.unopened.Goals as goal

pub returns-in-Refused : goal.returns-in-Refused
returns-in-Refused c = not_opened c.args.db.now c.not_opened_at.result c.not_opened_at.ensures
