-- The files are read first.
use Rattle.std.proofs.Common.{Bool, Err, Ok, refl, subst}
use Rattle.std.proofs.lemmas.Result.{err_from_is_err_and}
use Rattle.std.specs.Option.{option_map}
use Rattle.cli_words.specs.Words.{rows_in}
use Rattle.cli_texts.specs.CheckCommand.{AnswersTexts, asks_opinions}
use Rattle.cli_texts.specs.declared.findings_form.FindingsForm.{FindingsForm}
use Rattle.cli_texts.proofs.check_command.check_files.Goals as goal

pub returns-in_err-texts : goal.returns-in_err-texts
returns-in_err-texts g c =
    let p = err_from_is_err_and c.from_residual.result c.from_residual.ensures.1 in
    rw (p.1, p.2) (record { step = Err c.in_err-texts.field-0.0; is = c.in_err-texts.ensures.texts; next = refl })

pub returns : goal.returns
returns g c =
    let sources = c.whole_sources in
    record {
      step = Ok sources.result;
      is = sources.ensures.are (g.I.Read.remaining c.args.input.now) c.in_ok-texts.ensures.texts;
      next = subst (λ (form : FindingsForm). AnswersTexts (asks_opinions (rows_in c.args.words.now)) form (option_map (λ numbers. numbers.now) c.args.ignored) c.args.filesystems sources.result c.check_texts.result) c.form_of.ensures
          (subst (λ (opinions : Bool). AnswersTexts opinions c.form_of.result (option_map (λ numbers. numbers.now) c.args.ignored) c.args.filesystems sources.result c.check_texts.result) c.asks_opinions.ensures c.check_texts.ensures);
    }
