-- The words are looked up.
use Rattle.std.proofs.Common.{◌≡◌, ℕ, Bool, List, Option, Result, codes, subst}
use Rattle.std.proofs.lemmas.Result.{err_from_is_err_and}
use Rattle.clap.specs.Words.{Row, first_of}
use Rattle.cli_output.specs.declared.failure.Failure.{Failure}
use Rattle.cli_output.specs.declared.printed.Printed.{Printed}
use Rattle.cli_expectations.specs.declared.expectations_file.ReportForm.{ReportForm}
use Rattle.cli_words.specs.Words.{is_set, rows_in}
use Rattle.cli_questions.specs.AuditCommand.{AnswersBy, words_in}
use Rattle.cli_questions.proofs.audit_command.audit_in_form.Goals as goal

-- the answer by the words as they are looked up
by_words : (rows : List Row) (known : Option (List ℕ)) (result : Result Printed Failure) (db expectations : List ℕ) (form : ReportForm) (proposal : Bool) (name file : Option (List ℕ))
    → name ≡ first_of (codes "NAME") rows → file ≡ first_of (codes "FILE") rows → proposal ≡ is_set (codes "proposal") rows
    → AnswersBy (record { db = db; expectations = expectations; form = form; name = name; file = file }) proposal known result
    → AnswersBy (words_in rows form db expectations) (is_set (codes "proposal") rows) known result
by_words rows known result db expectations form proposal name file name_is file_is proposal_is answers =
    subst (λ (p : Bool). AnswersBy (words_in rows form db expectations) p known result) proposal_is
    (subst (λ (f : Option (List ℕ)). AnswersBy (record { db = db; expectations = expectations; form = form; name = first_of (codes "NAME") rows; file = f }) proposal known result) file_is
    (subst (λ (n : Option (List ℕ)). AnswersBy (record { db = db; expectations = expectations; form = form; name = n; file = file }) proposal known result) name_is answers))

pub returns-in_err-db : goal.returns-in_err-db
returns-in_err-db g c =
    let p = err_from_is_err_and c.from_residual.result c.from_residual.ensures.1 in
    rw (p.1, p.2, c.in_err-db.ensures.0) c.in_err-db.ensures.1

pub returns-in_err-expectations : goal.returns-in_err-expectations
returns-in_err-expectations g c =
    let p = err_from_is_err_and c.from_residual-in_err-expectations.result c.from_residual-in_err-expectations.ensures.1 in
    rw (p.1, p.2, c.in_ok-db.ensures, c.in_err-expectations.ensures.0) c.in_err-expectations.ensures.1

pub returns : goal.returns
returns g c =
    rw (c.in_ok-db.ensures, c.in_ok-expectations.ensures)
    (by_words (rows_in c.args.words.now) (g.I.Read.remaining c.args.input.now) c.audit.result c.in_ok-db.db.now c.in_ok-expectations.expectations.now c.args.form _ _ _
    c.given.ensures c.given-2.ensures c.is_set.ensures c.audit.ensures)
