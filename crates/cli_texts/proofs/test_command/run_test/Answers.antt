-- The form is found first.
use Rattle.std.proofs.Common.{◌≡◌, Bool, Err, Ok, Result, codes, refl, subst}
use Rattle.std.proofs.lemmas.Result.{err_from_is_err_and}
use Rattle.cli_output.specs.declared.failure.Failure.{Failure}
use Rattle.cli_expectations.specs.ReportForm.{GivesForm}
use Rattle.cli_expectations.specs.declared.expectations_file.ReportForm.{ReportForm}
use Rattle.cli_words.specs.Words.{is_set, rows_in}
use Rattle.cli_texts.proofs.test_command.run_test.Goals as goal

-- by what the words say
given : (json json_is sarif sarif_is : Bool) (result : Result ReportForm Failure) → json ≡ json_is → sarif ≡ sarif_is → GivesForm json sarif result → GivesForm json_is sarif_is result
given json json_is sarif sarif_is result one other gives = subst (λ (b : Bool). GivesForm json_is b result) other (subst (λ (b : Bool). GivesForm b sarif result) one gives)

pub returns-in_err-form : goal.returns-in_err-form
returns-in_err-form g c =
    let p = err_from_is_err_and c.from_residual.result c.from_residual.ensures.1 in
    rw (p.1, p.2) (record { step = Err c.in_err-form.field-0.0; is = given _ _ _ _ _ c.is_set.ensures c.is_set-2.ensures c.in_err-form.ensures; next = refl })

pub returns : goal.returns
returns g c = record { step = Ok c.in_ok-form.form; is = given _ _ _ _ _ c.is_set.ensures c.is_set-2.ensures c.in_ok-form.ensures; next = c.test_in_form.ensures }
