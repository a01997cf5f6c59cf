-- The files are read first.
use Rattle.std.proofs.Common.{Err, Ok, refl}
use Rattle.std.proofs.lemmas.Result.{err_from_is_err_and}
use Rattle.cli_sources.proofs.two_question.answer_files.Goals as goal

pub returns-in_err-texts : goal.returns-in_err-texts
returns-in_err-texts g c =
    let p = err_from_is_err_and c.from_residual.result c.from_residual.ensures.1 in
    rw (p.1, p.2) (record { step = Err c.in_err-texts.field-0.0; is = c.in_err-texts.ensures.texts; next = refl })

pub returns : goal.returns
returns g c =
    let sources = c.two_sources-sources in
    record {
      step = Ok sources.result;
      is = sources.ensures.are (g.I.Read.remaining c.args.input.now) c.in_ok-texts.ensures.texts;
      next = c.answer.ensures;
    }
