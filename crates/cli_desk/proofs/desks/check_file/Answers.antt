-- A file that is not a regular one is not opened.
use Rattle.cli_desk.proofs.NoDesk.{by_store}
use Rattle.cli_desk.proofs.desks.check_file.Goals as goal

pub returns-in-Ok-false : goal.returns-in-Ok-false
returns-in-Ok-false c = by_store c.args.db.now c.not_opened_at.result c.not_opened_at.ensures
