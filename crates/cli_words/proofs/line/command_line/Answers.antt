-- All the commands are added.
use Rattle.std.proofs.Common.{◌∙◌, ap}
use Rattle.std.proofs.lemmas.Result.{IfOk-weaker}
use Rattle.cli_words.specs.Commands as spec
use Rattle.cli_words.specs.PrivateLine.{IsCommand, with_commands}
use Rattle.cli_words.proofs.line.command_line.Goals as goal

pub returns : goal.returns
returns c = IfOk-weaker _ (IsCommand (with_commands spec.program c.command_rows.result.now)) _ (λ command is. is.is ∙ ap (spec.with_commands spec.program) c.command_rows.ensures) (c.with_commands.ensures _ c.program.ensures)
