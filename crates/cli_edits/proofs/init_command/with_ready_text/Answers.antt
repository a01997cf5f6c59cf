-- The database is made, and the text of it was.
use Rattle.std.proofs.Common.{Result, subst}
use Rattle.sqlite.specs.Held.{state}
use Rattle.desk_policy.specs.Site.{texts_of}
use Rattle.desk_store.specs.declared.error.CreateError.{CreateError}
use Rattle.cli_edits.specs.InitCommand.{Creates}
use Rattle.cli_edits.proofs.init_command.with_ready_text.Goals as goal

pub returns-in-Ok-created : goal.returns-in-Ok-created
returns-in-Ok-created g c = (
  subst (λ (created : Result Unit CreateError). Creates (state g.S.Store c.args.conn) (state g.S.Store c.create_desk-created.result.1) (texts_of c.args.site.now) created) c.in-Ok-created.is c.create_desk-created.ensures,
  c.in-Ok.ensures,
)
