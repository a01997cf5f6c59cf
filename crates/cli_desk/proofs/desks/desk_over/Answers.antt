-- The desk is opened on the connection, or it is told why there is none.
use Rattle.cli_desk.proofs.NoDesk.{by_opening}
use Rattle.cli_desk.proofs.desks.desk_over.Goals as goal

pub returns-in-Ok-clause-opened : goal.returns-in-Ok-clause-opened
returns-in-Ok-clause-opened g c = record { stands = c.in-Ok.ensures.opened; tables = c.in-Ok.ensures.tables; crash = c.in-Ok.ensures.crash }

pub returns-in-Err-clause-refused : goal.returns-in-Err-clause-refused
returns-in-Err-clause-refused g c = by_opening c.args.db.now c.in-Err.error c.refused_by_desk.result c.in-Err.ensures.errors c.refused_by_desk.ensures
