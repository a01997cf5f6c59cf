-- The desk stands at the history of the copy. No disk lies about the copy.
use Rattle.std.proofs.Common.{refl}
use Rattle.sqlite_pool.specs.Pool.{state}
use Rattle.sqlite.specs.Files.{file_state}
use Rattle.cli_desk.proofs.NoDesk.{good_disk, refuses_copy}
use Rattle.cli_desk.proofs.desks.desk_on_copy.Goals as goal

pub returns-in-Ok-clause-opened : goal.returns-in-Ok-clause-opened
unfolding state
returns-in-Ok-clause-opened c = c.in-Ok.ensures.opened (good_disk (file_state c.in-Ok.desk.conn).is_clean refl)

pub returns-in-Err-clause-refused : goal.returns-in-Err-clause-refused
unfolding state
returns-in-Err-clause-refused c =
    refuses_copy (file_state c.args.conn).committed c.in-Err.error c.refused_by_copy.result c.in-Err.ensures.errors (c.in-Err.ensures.foreign (good_disk (file_state c.in-Err.left).is_clean refl)) c.refused_by_copy.ensures
