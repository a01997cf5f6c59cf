-- The words are looked up, and parsed from left to right.
use Rattle.std.proofs.Common.{◌∙◌, ap, subst}
use Rattle.std.proofs.lemmas.Result.{err_from_is_err_and}
use Rattle.desk_service.specs.Questions.{Files}
use Rattle.cli_questions.specs.QuestionCommands.{plainly}
use Rattle.cli_questions.specs.Questions.{Asked, AnswersQuestion}
use Rattle.cli_questions.proofs.question_commands.run_files.Goals as goal

pub returns-in_err-db : goal.returns-in_err-db
returns-in_err-db c =
    let p = err_from_is_err_and c.from_residual.result c.from_residual.ensures.1 in
    rw (p.1, p.2, c.in_err-db.ensures.0) c.in_err-db.ensures.1

pub returns : goal.returns
returns c =
    rw (c.in_ok-db.ensures) (subst (λ (asked : Asked). AnswersQuestion c.in_ok-db.db.now asked c.answer_question.result) (c.plainly.ensures ∙ ap (plainly Files) c.is_set-json.ensures) c.answer_question.ensures)
