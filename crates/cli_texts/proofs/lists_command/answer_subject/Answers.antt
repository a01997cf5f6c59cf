-- The address is parsed, and then all is read.
use Rattle.std.proofs.Common.{Err, Ok, refl}
use Rattle.std.proofs.lemmas.Result.{err_from_is_err_and}
use Rattle.cli_texts.proofs.lists_command.answer_subject.Goals as goal

pub returns-in_err-host_of : goal.returns-in_err-host_of
returns-in_err-host_of g c =
    let p = err_from_is_err_and c.from_residual.result c.from_residual.ensures.1 in
    rw (p.1, p.2) (record { step = Err c.in_err-host_of.field-0.0; is = c.in_err-host_of.ensures; next = refl })

pub returns : goal.returns
returns g c = record { step = Ok c.in_ok-host_of.field-0; is = c.in_ok-host_of.ensures; next = c.answer_whole.ensures }
