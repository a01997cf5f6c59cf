-- The words are looked up, and parsed from left to right.
use Rattle.std.proofs.Common.{◌∙◌, Bool, ap, codes, subst}
use Rattle.std.proofs.lemmas.Result.{err_from_is_err_and}
use Rattle.cli_words.specs.Words.{is_set, rows_in}
use Rattle.cli_questions.specs.QuestionCommands.{of_exports}
use Rattle.cli_questions.specs.Questions.{Asked, AnswersQuestion}
use Rattle.cli_questions.proofs.question_commands.run_exports.Goals as goal

pub returns-in_err-db : goal.returns-in_err-db
returns-in_err-db c =
    let p = err_from_is_err_and c.from_residual.result c.from_residual.ensures.1 in
    rw (p.1, p.2, c.in_err-db.ensures.0) c.in_err-db.ensures.1

pub returns : goal.returns
returns c =
    rw (c.in_ok-db.ensures) (subst (λ (asked : Asked). AnswersQuestion c.in_ok-db.db.now asked c.answer_question.result) (c.of_exports.ensures ∙ ap (λ (terms : Bool). of_exports terms c.is_set-json.result) c.is_set-terms.ensures ∙ ap (of_exports (is_set (codes "terms") (rows_in c.args.words.now))) c.is_set-json.ensures) c.answer_question.ensures)
