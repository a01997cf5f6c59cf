-- The words are looked up, and parsed from left to right.
use Rattle.std.proofs.Common.{◌∙◌, ℕ, Err, List, Ok, Option, ap, refl, subst}
use Rattle.std.proofs.lemmas.Result.{err_from_is_err_and}
use Rattle.desk_service.specs.Questions.{Text}
use Rattle.cli_questions.specs.QuestionCommands.{ParsesRevision, plainly}
use Rattle.cli_questions.specs.Questions.{Asked, AnswersQuestion}
use Rattle.cli_questions.proofs.question_commands.run_cat.Goals as goal

pub returns-in_err-db : goal.returns-in_err-db
returns-in_err-db c =
    let p = err_from_is_err_and c.from_residual.result c.from_residual.ensures.1 in
    rw (p.1, p.2, c.in_err-db.ensures.0) c.in_err-db.ensures.1

pub returns-in_err-name : goal.returns-in_err-name
returns-in_err-name c =
    let p = err_from_is_err_and c.from_residual-in_err-name.result c.from_residual-in_err-name.ensures.1 in
    rw (p.1, p.2, c.in_ok-db.ensures, c.in_err-name.ensures.0) c.in_err-name.ensures.1

pub returns-in_err-rev : goal.returns-in_err-rev
returns-in_err-rev c =
    let p = err_from_is_err_and c.from_residual-in_err-rev.result c.from_residual-in_err-rev.ensures.1 in
    rw (p.1, p.2, c.in_ok-db.ensures, c.in_ok-name.ensures) (record { step = Err c.in_err-rev.field-0.0; is = subst (λ (word : Option (List ℕ)). ParsesRevision word (Err c.in_err-rev.field-0.0)) c.given.ensures c.in_err-rev.ensures; next = refl })

pub returns : goal.returns
returns c =
    rw (c.in_ok-db.ensures, c.in_ok-name.ensures) (record { step = Ok c.in_ok-rev.rev; is = subst (λ (word : Option (List ℕ)). ParsesRevision word (Ok c.in_ok-rev.rev)) c.given.ensures c.in_ok-rev.ensures; next = (subst (λ (asked : Asked). AnswersQuestion c.in_ok-db.db.now asked c.answer_question.result) (c.plainly.ensures ∙ ap (plainly (Text c.in_ok-name.name.now c.in_ok-rev.rev)) c.is_set-json.ensures) c.answer_question.ensures) })
