-- The command so far has the arguments so far.
use Rattle.std.proofs.Common.{take}
use Rattle.clap.specs.Words.{App}
use Rattle.cli_words.specs.PrivateLine.{IsCommand, with_arguments}
use Rattle.cli_words.proofs.line.with_arguments.Given as goal

abbrev pub invariant-loop-argument : goal.invariant-loop-argument
invariant-loop-argument l = (app : App) → IsCommand app l.fn.command → IsCommand (with_arguments app (take l.argument-index l.arguments)) l.made
