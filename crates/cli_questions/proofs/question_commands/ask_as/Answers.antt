-- The words are looked up, and parsed from left to right.
use Rattle.std.proofs.Common.{◌∙◌, ℕ, Bool, Err, List, Ok, Option, ap, refl, subst}
use Rattle.std.proofs.lemmas.Result.{err_from_is_err_and}
use Rattle.desk_text.specs.Address.{number_of}
use Rattle.cli_questions.specs.QuestionCommands.{ParsesOwn, mounting}
use Rattle.cli_questions.specs.Questions.{Asked, AnswersQuestion}
use Rattle.cli_questions.proofs.question_commands.ask_as.Goals as goal

pub returns-in_err-db : goal.returns-in_err-db
returns-in_err-db c =
    let p = err_from_is_err_and c.from_residual.result c.from_residual.ensures.1 in
    rw (p.1, p.2, c.in_err-db.ensures.0) c.in_err-db.ensures.1

pub returns-in_err-host : goal.returns-in_err-host
returns-in_err-host c =
    let p = err_from_is_err_and c.from_residual-in_err-host.result c.from_residual-in_err-host.ensures.1 in
    rw (p.1, p.2, c.in_ok-db.ensures, c.in_err-host.ensures.0) c.in_err-host.ensures.1

pub returns-in_err-dir : goal.returns-in_err-dir
returns-in_err-dir c =
    let p = err_from_is_err_and c.from_residual-in_err-dir.result c.from_residual-in_err-dir.ensures.1 in
    rw (p.1, p.2, c.in_ok-db.ensures, c.in_ok-host.ensures, c.in_err-dir.ensures.0) c.in_err-dir.ensures.1

pub returns-in_err-address : goal.returns-in_err-address
returns-in_err-address c =
    let p = err_from_is_err_and c.from_residual-in_err-address.result c.from_residual-in_err-address.ensures.1 in
    rw (p.1, p.2, c.in_ok-db.ensures, c.in_ok-host.ensures, c.in_ok-dir.ensures) (record { step = Err c.in_err-address.field-0.0; is = c.in_err-address.ensures; next = refl })

pub returns-in_err-path : goal.returns-in_err-path
returns-in_err-path c =
    let p = err_from_is_err_and c.from_residual-in_err-path.result c.from_residual-in_err-path.ensures.1 in
    rw (p.1, p.2, c.in_ok-db.ensures, c.in_ok-host.ensures, c.in_ok-dir.ensures) (record { step = Ok c.in_ok-address.address; is = c.in_ok-address.ensures; next = record { step = Err c.in_err-path.field-0.0; is = c.in_err-path.ensures; next = refl } })

pub returns-in_err-own : goal.returns-in_err-own
returns-in_err-own c =
    let p = err_from_is_err_and c.from_residual-in_err-own.result c.from_residual-in_err-own.ensures.1 in
    rw (p.1, p.2, c.in_ok-db.ensures, c.in_ok-host.ensures, c.in_ok-dir.ensures) (record { step = Ok c.in_ok-address.address; is = c.in_ok-address.ensures; next = record { step = Ok c.in_ok-path.path; is = c.in_ok-path.ensures; next = record { step = Err c.in_err-own.field-0.0; is = subst (λ (word : Option (List ℕ)). ParsesOwn word (Err c.in_err-own.field-0.0)) c.given.ensures c.in_err-own.ensures; next = refl } } })

pub returns : goal.returns
returns c =
    rw (c.in_ok-db.ensures, c.in_ok-host.ensures, c.in_ok-dir.ensures) (record { step = Ok c.in_ok-address.address; is = c.in_ok-address.ensures; next = record { step = Ok c.in_ok-path.path; is = c.in_ok-path.ensures; next = record { step = Ok c.in_ok-own.own; is = subst (λ (word : Option (List ℕ)). ParsesOwn word (Ok c.in_ok-own.own)) c.given.ensures c.in_ok-own.ensures; next = subst (λ (asked : Asked). AnswersQuestion c.in_ok-db.db.now asked c.answer_question.result) (c.mounting.ensures ∙ ap (λ (json : Bool). mounting (record { address = number_of c.in_ok-address.address; path = c.in_ok-path.path; own = c.in_ok-own.own; asking = c.args.asking; json = json })) c.is_set-json.ensures) c.answer_question.ensures } } })
