-- The first file is read, and then those behind it.
use Rattle.std.proofs.Common.{◌∙◌, inl, sym, true≢false}
use Rattle.std.proofs.lemmas.Result.{err_from_is_err_and}
use Rattle.std.specs.String.{string_bytes}
use Rattle.cli_sources.specs.ExportsFiles.{more_list}
use Rattle.cli_sources.specs.TableFiles.{named}
use Rattle.cli_sources.proofs.ExportsTexts.{read_alone, read_several, several_fail}
use Rattle.cli_sources.proofs.exports_files.read_exports.Goals as goal

pub returns-in_err-text-clause-text : goal.returns-in_err-text-clause-text
returns-in_err-text-clause-text g c =
    let p = err_from_is_err_and c.from_residual.result c.from_residual.ensures.1 in
    rw (p.1, p.2) (inl (inl c.in_err-text.ensures.text))

pub returns-in_err-add_more-clause-text : goal.returns-in_err-add_more-clause-text
returns-in_err-add_more-clause-text g c =
    let p = err_from_is_err_and c.from_residual-in_err-add_more.result c.from_residual-in_err-add_more.ensures.1 in
    rw (p.1, p.2)
    (several_fail (named c.args.first) (more_list c.args.more) (g.I.Read.remaining c.args.input.now) (g.I.Read.remaining c.read_file.new.input) (g.I.Read.remaining c.add_more.new.input) (string_bytes c.in_ok-text.text)
    c.in_ok-whole.whole c.add_more.new.whole c.in_err-add_more.field-0.0 c.in_ok-text.ensures.text c.read_file.ensures.left c.in_err-add_more.ensures)

pub returns-then-is_empty-clause-text : goal.returns-then-is_empty-clause-text
returns-then-is_empty-clause-text g c =
    read_alone (named c.args.first) (more_list c.args.more) (g.I.Read.remaining c.args.input.now) (g.I.Read.remaining c.read_file.new.input) (string_bytes c.in_ok-text.text) c.alone.result
    c.in_ok-text.ensures.text c.read_file.ensures.left (c.is_empty.ensures.0 c.if-is_empty.true) c.alone.ensures.text c.alone.ensures.origins

pub returns-then-is_readable-clause-text : goal.returns-then-is_readable-clause-text
returns-then-is_readable-clause-text g c =
    read_several (named c.args.first) (more_list c.args.more) (g.I.Read.remaining c.args.input.now) (g.I.Read.remaining c.read_file.new.input) (g.I.Read.remaining c.add_more.new.input) (string_bytes c.in_ok-text.text)
    c.in_ok-whole.whole c.add_more.new.whole tt c.in_ok-text.ensures.text c.read_file.ensures.left (λ e. true≢false (sym (c.is_empty.ensures.1 e) ∙ c.if-is_empty.false)) c.in_ok-whole.ensures c.in_ok-add_more.ensures
