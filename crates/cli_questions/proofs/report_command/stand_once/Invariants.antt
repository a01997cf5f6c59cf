-- No two of the newest revisions so far are of one file.
use Rattle.std.proofs.Common.{take}
use Rattle.std.specs.List.{AllPairs}
use Rattle.cli_questions.proofs.HeadsOnce.{Apart}
use Rattle.cli_questions.proofs.report_command.stand_once.Given as goal

abbrev pub invariant-loop-place : goal.invariant-loop-place
invariant-loop-place l = AllPairs Apart (take l.place l.heads)
