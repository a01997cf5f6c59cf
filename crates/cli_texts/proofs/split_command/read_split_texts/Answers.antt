-- FILESYSTEMS is read after FILE, and at most one of them is standard input.
use Rattle.std.proofs.Common.{inl, inr, refl}
use Rattle.std.proofs.lemmas.Result.{err_from_is_err_and}
use Rattle.std.specs.String.{string_bytes}
use Rattle.cli_texts.specs.SplitCommand.{split_files}
use Rattle.cli_sources.proofs.FilesInTurn.{once}
use Rattle.cli_texts.proofs.split_command.read_split_texts.Goals as goal

pub returns-in_err-filesystems-clause-texts : goal.returns-in_err-filesystems-clause-texts
returns-in_err-filesystems-clause-texts g c =
    let p = err_from_is_err_and c.from_residual-in_err-filesystems.result c.from_residual-in_err-filesystems.ensures.1 in
    rw (p.1, p.2)
    (once (split_files c.args.file.now c.args.filesystems.now) (g.I.Read.remaining c.args.input.now) _ _ c.name_input_twice.ensures c.if-name_input_twice.false
    (inr (string_bytes c.in_ok-file.file, g.I.Read.remaining c.read_if_given.new.input, (c.in_ok-file.ensures.text, (c.read_if_given.ensures.left, inl c.in_err-filesystems.ensures.text)))))

pub returns-clause-texts : goal.returns-clause-texts
returns-clause-texts g c =
    once (split_files c.args.file.now c.args.filesystems.now) (g.I.Read.remaining c.args.input.now) _ _ c.name_input_twice.ensures c.if-name_input_twice.false
    (c.in_ok-file.ensures.text, (g.I.Read.remaining c.read_if_given.new.input, (c.read_if_given.ensures.left, (c.in_ok-filesystems.ensures.text, (g.I.Read.remaining c.read_if_given-2.new.input, (c.read_if_given-2.ensures.left, refl))))))
