-- The words are looked up, and then the files are read.
use Rattle.std.proofs.Common.{Err, Ok, refl}
use Rattle.std.proofs.lemmas.Result.{err_from_is_err_and}
use Rattle.cli_texts.specs.SplitCommand.{split_files, split_list, split_texts}
use Rattle.cli_sources.proofs.FilesInTurn.{lent}
use Rattle.cli_sources.proofs.FoundWords.{by_found}
use Rattle.cli_texts.proofs.split_command.run_split.Goals as goal

pub returns-in_err-texts : goal.returns-in_err-texts
returns-in_err-texts g c =
    let p = err_from_is_err_and c.from_residual-in_err-texts.result c.from_residual-in_err-texts.ensures.1 in
    rw (p.1, p.2) (by_found _ _ _ _ _ c.in_ok-file.ensures (by_found _ _ _ _ _ c.in_ok-filesystems.ensures
    (record { step = Err c.in_err-texts.field-0.0; is = c.in_err-texts.ensures.texts; next = refl })))

pub returns : goal.returns
returns g c =
    let sources = c.split_sources-sources in
    by_found _ _ _ _ _ c.in_ok-file.ensures (by_found _ _ _ _ _ c.in_ok-filesystems.ensures
    (record {
      step = Ok sources.result;
      is = lent (split_files c.in_ok-file.file.now c.in_ok-filesystems.filesystems.now) (g.I.Read.remaining c.args.input.now) (split_texts c.in_ok-texts.texts) (split_list sources.result) sources.ensures.paths sources.ensures.texts sources.ensures.plain c.in_ok-texts.ensures.texts;
      next = c.answer_texts.ensures;
    }))
