-- Which warnings are ignored is read first.
use Rattle.std.proofs.Common.{Err, List, Ok, Option, refl, subst, ℕ}
use Rattle.std.proofs.lemmas.Result.{err_from_is_err_and}
use Rattle.std.specs.Option.{option_map}
use Rattle.cli_words.specs.Words.{rows_in}
use Rattle.cli_texts.specs.CheckCommand.{AnswersCheckBy}
use Rattle.cli_texts.specs.IgnoredNumbers.{ReadsIgnored}
use Rattle.cli_texts.proofs.check_command.check_heard.Goals as goal

pub returns-in_err-numbers : goal.returns-in_err-numbers
returns-in_err-numbers g c =
    let p = err_from_is_err_and c.from_residual.result c.from_residual.ensures.1 in
    rw (p.1, p.2) (record {
      step = Err c.in_err-numbers.field-0.0;
      is = subst (λ (word : Option (List ℕ)). ReadsIgnored word (Err c.in_err-numbers.field-0.0)) c.given.ensures c.in_err-numbers.ensures;
      next = refl;
    })

pub returns : goal.returns
returns g c = record {
  step = Ok (option_map (λ numbers. numbers.items) c.in_ok-numbers.numbers);
  is = subst (λ (word : Option (List ℕ)). ReadsIgnored word (Ok (option_map (λ numbers. numbers.items) c.in_ok-numbers.numbers))) c.given.ensures c.in_ok-numbers.ensures;
  next = subst (λ (ignored : Option (List ℕ)). AnswersCheckBy (rows_in c.args.words.now) (g.I.Read.remaining c.args.input.now) ignored c.check_in_form.result) c.lend_numbers.ensures c.check_in_form.ensures;
}
