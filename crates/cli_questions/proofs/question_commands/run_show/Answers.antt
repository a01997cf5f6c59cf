-- The words are looked up, and parsed from left to right.
use Rattle.std.proofs.Common.{◌∙◌, Err, Ok, ap, refl, subst}
use Rattle.std.proofs.lemmas.Result.{err_from_is_err_and}
use Rattle.desk_text.specs.Address.{number_of}
use Rattle.desk_service.specs.Questions.{Listing}
use Rattle.cli_questions.specs.QuestionCommands.{plainly}
use Rattle.cli_questions.specs.Questions.{Asked, AnswersQuestion}
use Rattle.cli_questions.proofs.question_commands.run_show.Goals as goal

pub returns-in_err-db : goal.returns-in_err-db
returns-in_err-db c =
    let p = err_from_is_err_and c.from_residual.result c.from_residual.ensures.1 in
    rw (p.1, p.2, c.in_err-db.ensures.0) c.in_err-db.ensures.1

pub returns-in_err-host : goal.returns-in_err-host
returns-in_err-host c =
    let p = err_from_is_err_and c.from_residual-in_err-host.result c.from_residual-in_err-host.ensures.1 in
    rw (p.1, p.2, c.in_ok-db.ensures, c.in_err-host.ensures.0) c.in_err-host.ensures.1

pub returns-in_err-address : goal.returns-in_err-address
returns-in_err-address c =
    let p = err_from_is_err_and c.from_residual-in_err-address.result c.from_residual-in_err-address.ensures.1 in
    rw (p.1, p.2, c.in_ok-db.ensures, c.in_ok-host.ensures) (record { step = Err c.in_err-address.field-0.0; is = c.in_err-address.ensures; next = refl })

pub returns : goal.returns
returns c =
    rw (c.in_ok-db.ensures, c.in_ok-host.ensures) (record { step = Ok c.in_ok-address.address; is = c.in_ok-address.ensures; next = (subst (λ (asked : Asked). AnswersQuestion c.in_ok-db.db.now asked c.answer_question.result) (c.plainly.ensures ∙ ap (plainly (Listing (number_of c.in_ok-address.address))) c.is_set-json.ensures) c.answer_question.ensures) })
