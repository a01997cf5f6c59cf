-- What is opened on the copy is opened of the path.
use Rattle.std.proofs.lemmas.Result.{IfErr-weaker, IfOk-weaker}
use Rattle.sqlite.specs.Files.{file_state, over_files}
use Rattle.cli_desk.specs.Desks.{HasNoCopiedDesk, IsCopied}
use Rattle.cli_desk.proofs.NoDesk.{no_desk_at, not_opened}
use Rattle.cli_desk.proofs.desks.open_copied_desk.Goals as goal

pub returns-in-Ok-clause-opened : goal.returns-in-Ok-clause-opened
returns-in-Ok-clause-opened c = IfOk-weaker _ _ (IsCopied over_files) (λ desk is. ((file_state c.in-Ok.conn).committed, is)) c.desk_on_copy.ensures.opened

pub returns-in-Ok-clause-refused : goal.returns-in-Ok-clause-refused
returns-in-Ok-clause-refused c = IfErr-weaker _ _ (HasNoCopiedDesk c.args.db.now) (λ answer none. no_desk_at c.args.db.now (file_state c.in-Ok.conn).committed answer none) c.desk_on_copy.ensures.refused

pub returns-in-Err-Refused-clause-refused : goal.returns-in-Err-Refused-clause-refused
returns-in-Err-Refused-clause-refused c = not_opened c.args.db.now c.not_opened_at.result c.not_opened_at.ensures
