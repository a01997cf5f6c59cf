-- The words are looked up, and parsed from left to right.
use Rattle.std.proofs.Common.{◌∙◌, Bool, Err, Ok, ap, codes, refl, subst}
use Rattle.std.proofs.lemmas.Result.{err_from_is_err_and}
use Rattle.cli_words.specs.Words.{is_set, rows_in}
use Rattle.cli_questions.specs.QuestionCommands.{of_site}
use Rattle.cli_questions.specs.Questions.{Asked, AnswersQuestion, Ranges}
use Rattle.cli_questions.proofs.question_commands.run_who.Goals as goal

pub returns-in_err-db : goal.returns-in_err-db
returns-in_err-db c =
    let p = err_from_is_err_and c.from_residual.result c.from_residual.ensures.1 in
    rw (p.1, p.2, c.in_err-db.ensures.0) c.in_err-db.ensures.1

pub returns-in_err-dir : goal.returns-in_err-dir
returns-in_err-dir c =
    let p = err_from_is_err_and c.from_residual-in_err-dir.result c.from_residual-in_err-dir.ensures.1 in
    rw (p.1, p.2, c.in_ok-db.ensures, c.in_err-dir.ensures.0) c.in_err-dir.ensures.1

pub returns-in_err-path : goal.returns-in_err-path
returns-in_err-path c =
    let p = err_from_is_err_and c.from_residual-in_err-path.result c.from_residual-in_err-path.ensures.1 in
    rw (p.1, p.2, c.in_ok-db.ensures, c.in_ok-dir.ensures) (record { step = Err c.in_err-path.field-0.0; is = c.in_err-path.ensures; next = refl })

pub returns : goal.returns
returns c =
    rw (c.in_ok-db.ensures, c.in_ok-dir.ensures) (record { step = Ok c.in_ok-path.path; is = c.in_ok-path.ensures; next = (subst (λ (asked : Asked). AnswersQuestion c.in_ok-db.db.now asked c.answer_question.result) (c.of_site.ensures ∙ ap (λ (mountd : Bool). of_site (Ranges c.in_ok-path.path mountd) c.is_set-json.result) c.is_set-mountd.ensures ∙ ap (of_site (Ranges c.in_ok-path.path (is_set (codes "mountd") (rows_in c.args.words.now)))) c.is_set-json.ensures) c.answer_question.ensures) })
