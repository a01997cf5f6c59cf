-- What is asked of is found first.
use Rattle.std.proofs.Common.{Bool, Err, Ok, codes, refl, subst}
use Rattle.std.proofs.lemmas.Result.{err_from_is_err_and}
use Rattle.cli_words.specs.Words.{is_set, rows_in}
use Rattle.cli_texts.specs.CompareCommand.{AnswersTexts}
use Rattle.cli_sources.specs.TwoQuestion.{AnswersTwo}
use Rattle.cli_texts.proofs.compare_command.run_compare.Goals as goal

pub returns-in_err-subject : goal.returns-in_err-subject
returns-in_err-subject g c =
    let p = err_from_is_err_and c.from_residual.result c.from_residual.ensures.1 in
    rw (p.1, p.2) (record { step = Err c.in_err-subject.field-0.0; is = c.in_err-subject.ensures; next = refl })

pub returns : goal.returns
returns g c =
    let rows = rows_in c.args.words.now in
    record {
      step = Ok c.in_ok-subject.subject;
      is = c.in_ok-subject.ensures;
      next = subst (λ (json : Bool). AnswersTwo (AnswersTexts (is_set (codes "all") rows) json) json (codes "OLD") (codes "NEW") rows (g.I.Read.remaining c.args.input.now) c.in_ok-subject.subject c.answer_two.result) c.is_set-2.ensures
          (subst (λ (all : Bool). AnswersTwo (AnswersTexts all c.is_set-2.result) c.is_set-2.result (codes "OLD") (codes "NEW") rows (g.I.Read.remaining c.args.input.now) c.in_ok-subject.subject c.answer_two.result) c.is_set.ensures c.answer_two.ensures);
    }
