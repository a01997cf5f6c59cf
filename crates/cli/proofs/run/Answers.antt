-- The answer to the words is the one that is reported.
use Rattle.std.proofs.Common.{◌<◌, ℕ, List, [], ◌∷◌, length, map, rules, Option, Result, arith}
use Rattle.cli_output.specs.declared.failure.Failure.{Failure}
use Rattle.cli_output.specs.declared.printed.Printed.{Printed}
use Rattle.cli.specs.Commands.{AnswersCommand, AnswersProgram}
use Rattle.cli.proofs.run.Goals as goal

some_words : {X : Type 0} (f : X → List ℕ) (xs : List X) (known : Option (List ℕ)) (result : Result Printed Failure) → 0 < length xs → AnswersCommand (map f xs) known result → AnswersProgram (map f xs) known result
some_words f [] known result some answers = absurd (omega arith)
some_words f (x ∷ xs) known result some answers = answers

pub returns-else-is_empty : goal.returns-else-is_empty
returns-else-is_empty g c =
    let some : 0 < length c.args.words.now = search rules in
    record {
      answer = c.run_words-answer.result;
      answers = some_words g.S.AsSlice.items c.args.words.now (g.I.Read.remaining c.args.input.now) c.run_words-answer.result some c.run_words-answer.ensures;
      status = c.finish-else-is_empty.ensures.status;
      prints = c.finish-else-is_empty.ensures.printed;
      at_four = c.finish-else-is_empty.ensures.at_four;
    }
