-- The connection is one that no clause can name.
use Rattle.sqlite.specs.Files.{over_files}
use Rattle.desk_policy.specs.Site.{texts_of}
use Rattle.cli_edits.proofs.InitAnswers.{comes_to}
use Rattle.cli_edits.proofs.init_command.open_made.Goals as goal

pub returns-in-Ok : goal.returns-in-Ok
returns-in-Ok c = comes_to over_files c.in-Ok.conn c.remove_if_refused-stored.result.1 (texts_of c.args.site.now) c.remove_if_refused-stored.result.0 c.remove_if_refused-stored.ensures
