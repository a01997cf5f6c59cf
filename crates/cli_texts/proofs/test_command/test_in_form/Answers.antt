-- What is asked of is found first.
use Rattle.std.proofs.Common.{Err, Ok, refl}
use Rattle.std.proofs.lemmas.Result.{err_from_is_err_and}
use Rattle.cli_texts.proofs.test_command.test_in_form.Goals as goal

pub returns-in_err-subject : goal.returns-in_err-subject
returns-in_err-subject g c =
    let p = err_from_is_err_and c.from_residual.result c.from_residual.ensures.1 in
    rw (p.1, p.2) (record { step = Err c.in_err-subject.field-0.0; is = c.in_err-subject.ensures; next = refl })

pub returns : goal.returns
returns g c = record { step = Ok c.in_ok-subject.subject; is = c.in_ok-subject.ensures; next = c.answer_two.ensures }
