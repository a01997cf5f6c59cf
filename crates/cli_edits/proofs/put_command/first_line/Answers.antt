-- The first line is taken.
use Rattle.std.proofs.Common.{inr}
use Rattle.cli_edits.proofs.put_command.first_line.Goals as goal

pub returns-in-Some : goal.returns-in-Some
returns-in-Some c = rw (← c.lines.ensures.rest) (inr (c.next.new.self.rest.now, c.in-Some.ensures.steps.0.2))
