-- The texts are read, and then the site is asked.
use Rattle.std.proofs.Common.{◌∙◌, ℕ, Err, List, Ok, ap, refl, subst}
use Rattle.std.proofs.lemmas.Result.{err_from_is_err_and}
use Rattle.std.specs.String.{string_bytes}
use Rattle.desk_service.specs.Questions.{Question}
use Rattle.cli_expectations.specs.TestedPolicy.{Expected, expected_of}
use Rattle.cli_questions.specs.AuditCommand.{auditing, expected_by, site_question, words_of}
use Rattle.cli_questions.specs.Questions.{AnswersQuestion, Asked}
use Rattle.cli_questions.proofs.audit_command.audit_files.Goals as goal

pub returns-in_err-texts : goal.returns-in_err-texts
returns-in_err-texts g c =
    let p = err_from_is_err_and c.from_residual.result c.from_residual.ensures.1 in
    rw (p.1, p.2) (record { step = Err c.in_err-texts.field-0.0; is = c.in_err-texts.ensures.texts; next = refl })

pub returns : goal.returns
returns g c =
    let words = c.args.words in
    record {
      step = Ok c.in_ok-texts.texts;
      is = c.in_ok-texts.ensures.texts;
      next =
          subst (λ (asked : Asked). AnswersQuestion words.db.now asked c.answer_question.result)
          (c.auditing.ensures
          ∙ ap (λ (question : Question). auditing question (expected_of c.expected_by-expected.result))
          (c.site_question-question.ensures ∙ ap (λ (text : List ℕ). site_question (words_of words) text) c.as_str-2.ensures.value)
          ∙ ap (λ (expected : Expected). auditing (site_question (words_of words) (string_bytes c.in_ok-texts.texts.other)) expected)
          (c.expected_by-expected.ensures ∙ ap (λ (text : List ℕ). expected_by (words_of words) text) c.as_str.ensures.value))
          c.answer_question.ensures;
    }
