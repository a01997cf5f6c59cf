-- The loop stops behind a line end, or at the start.
use Rattle.std.proofs.Common.{arith}
use Rattle.cli_files.proofs.TextFaults.{behind_last}
use Rattle.cli_files.proofs.input.last_line.Goals as goal
use Rattle.cli_files.proofs.input.last_line.Goals.{then-loop-start-test+else-front-start-ne10, else-loop-start-test}

pub returns : goal.returns
returns c =
    behind_last c.args.front.now c.loop-start.start c.loop-start.invariant.within c.loop-start.invariant.behind
    (λ some. elim c.loop-start-test.branch [
      | then-loop-start-test+else-front-start-ne10 w ↦ w.if-front-start-ne10.false
      | else-loop-start-test w ↦ absurd (omega arith)
    ])
