-- The line that was read is answered, or it could not be read.
use Rattle.std.proofs.Common.{inl, inr, subst, List, ℕ}
use Rattle.cli_files.specs.Input.{first_line}
use Rattle.cli.specs.Commands.{AnswersLine}
use Rattle.cli.proofs.commands.run_first_line.Goals as goal

pub returns-in-Ok : goal.returns-in-Ok
returns-in-Ok g c = inr (record {
  line = c.in-Ok.bytes.items;
  first = c.in-Ok.ensures.line;
  rest = g.I.Read.remaining c.read_line.new.input;
  left = c.in-Ok.ensures.rest;
  answers = subst (λ (line : List ℕ). AnswersLine (first_line line) (g.I.Read.remaining c.read_line.new.input) c.run_line.result) c.as_slice.ensures.value c.run_line.ensures;
})

pub returns-in-Err : goal.returns-in-Err
returns-in-Err g c = inl c.of_first_line.ensures
