-- The command line so far has the commands so far.
use Rattle.std.proofs.Common.{take}
use Rattle.clap.specs.Words.{App}
use Rattle.cli_words.specs.PrivateLine.{IsCommand, with_commands}
use Rattle.cli_words.proofs.line.with_commands.Given as goal

abbrev pub invariant-loop-row : goal.invariant-loop-row
invariant-loop-row l = (app : App) → IsCommand app l.fn.program → IsCommand (with_commands app (take l.row-index l.rows)) l.made
