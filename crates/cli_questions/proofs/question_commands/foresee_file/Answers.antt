-- FILE is read, and then what it would change is asked.
use Rattle.std.proofs.Common.{◌∙◌, ℕ, Err, List, Ok, ap, refl, subst}
use Rattle.std.proofs.lemmas.Result.{err_from_is_err_and}
use Rattle.std.specs.String.{string_bytes}
use Rattle.desk_service.specs.Questions.{Foresee}
use Rattle.cli_questions.specs.QuestionCommands.{changes}
use Rattle.cli_questions.specs.Questions.{AnswersQuestion, Asked}
use Rattle.cli_questions.proofs.question_commands.foresee_file.Goals as goal

pub returns-in_err-text : goal.returns-in_err-text
returns-in_err-text g c =
    let p = err_from_is_err_and c.from_residual.result c.from_residual.ensures.1 in
    rw (p.1, p.2) (record { step = Err c.in_err-text.field-0.0; is = c.in_err-text.ensures.text; next = refl })

pub returns : goal.returns
returns g c =
    record {
      step = Ok (string_bytes c.in_ok-text.text);
      is = c.in_ok-text.ensures.text;
      next = subst (λ (asked : Asked). AnswersQuestion c.args.db.now asked c.answer_question.result) (c.changes.ensures ∙ ap (λ (text : List ℕ). changes (Foresee c.args.name.now text) c.args.all c.args.json) c.as_str.ensures.value) c.answer_question.ensures;
    }
