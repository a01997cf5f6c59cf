-- The other files are read first.
use Rattle.std.proofs.Common.{Err, Ok, refl}
use Rattle.std.proofs.lemmas.Result.{err_from_is_err_and}
use Rattle.desk_findings.specs.CheckFolder.{Listed, Mounted}
use Rattle.cli_texts.proofs.check_site_files.check_folder.Goals as goal

pub returns-in_err-texts : goal.returns-in_err-texts
returns-in_err-texts g c =
    let p = err_from_is_err_and c.from_residual.result c.from_residual.ensures.1 in
    rw (p.1, p.2) (record { step = Err c.in_err-texts.field-0.0; is = c.in_err-texts.ensures.texts; next = refl })

pub returns-in-Mounted : goal.returns-in-Mounted
returns-in-Mounted g c =
    let sources = c.whole_sources-whole in
    record {
      step = Ok sources.result;
      is = sources.ensures.are (g.I.Read.remaining c.args.input.now) c.in_ok-texts.ensures.texts;
      next = rw c.in-Mounted.is (record { made = Mounted c.in-Mounted.filesystems; are = refl; answers = c.check_texts.ensures });
    }

pub returns : goal.returns
returns g c =
    let sources = c.whole_sources-whole in
    record {
      step = Ok sources.result;
      is = sources.ensures.are (g.I.Read.remaining c.args.input.now) c.in_ok-texts.ensures.texts;
      next = rw c.in-Listed.is (record { made = Listed (record { path = c.as_str.result; text = c.as_str-in-Listed.result; origins = _ }); are = (c.as_str.ensures.value, c.as_str-in-Listed.ensures.value, refl); answers = c.check_texts-in-Listed.ensures });
    }
