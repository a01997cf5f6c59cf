-- The exports texts are read after the tables, and at most one file is standard input.
use Rattle.std.proofs.Common.{inl, map}
use Rattle.std.proofs.lemmas.Result.{err_from_is_err_and}
use Rattle.std.specs.String.{string_bytes}
use Rattle.cli_sources.specs.ExportsFiles.{exports_list}
use Rattle.cli_sources.specs.TableFiles.{named, table_list}
use Rattle.cli_sources.specs.WholeFiles.{files_of}
use Rattle.cli_sources.proofs.FilesInTurn.{either, fails_before, fails_on, once, once_or, reads_on, turned}
use Rattle.cli_sources.proofs.whole_files.read_whole_texts.Goals as goal

pub returns-in_err-tables-clause-texts : goal.returns-in_err-tables-clause-texts
returns-in_err-tables-clause-texts g c =
    let p = err_from_is_err_and c.from_residual.result c.from_residual.ensures.1 in
    let tables = map named (table_list c.args.files.tables) in
    let exports = exports_list c.args.files.exports c.args.files.more in
    rw (p.1, p.2)
    (inl (once (files_of c.args.files) (g.I.Read.remaining c.args.input.now) _ _ c.names_input_twice.ensures c.if-names_input_twice.false
    (fails_before tables exports (g.I.Read.remaining c.args.input.now) c.in_err-tables.field-0.0 c.in_err-tables.ensures.texts)))

pub returns-in_err-exports-clause-texts : goal.returns-in_err-exports-clause-texts
returns-in_err-exports-clause-texts g c =
    let p = err_from_is_err_and c.from_residual-in_err-exports.result c.from_residual-in_err-exports.ensures.1 in
    let tables = map named (table_list c.args.files.tables) in
    let exports = exports_list c.args.files.exports c.args.files.more in
    rw (p.1, p.2)
    (once_or (files_of c.args.files) (g.I.Read.remaining c.args.input.now) _ _ c.names_input_twice.ensures c.if-names_input_twice.false
    (either (fails_on tables exports (g.I.Read.remaining c.args.input.now) (g.I.Read.remaining c.read_tables.new.input) (map string_bytes (table_list c.in_ok-tables.tables)) c.in_err-exports.field-0.0 c.in_ok-tables.ensures.texts)
    c.in_err-exports.ensures.text))

pub returns-clause-texts : goal.returns-clause-texts
returns-clause-texts g c =
    let tables = map named (table_list c.args.files.tables) in
    let exports = exports_list c.args.files.exports c.args.files.more in
    let whole = c.in_ok-exports.ensures.text in
    record {
      exports = whole.texts;
      read = once (files_of c.args.files) (g.I.Read.remaining c.args.input.now) _ _ c.names_input_twice.ensures c.if-names_input_twice.false
          (reads_on tables exports (g.I.Read.remaining c.args.input.now) (g.I.Read.remaining c.read_tables.new.input) (map string_bytes (table_list c.in_ok-tables.tables)) whole.texts c.in_ok-tables.ensures.texts
          (turned exports (g.I.Read.remaining c.read_tables.new.input) (g.I.Read.remaining c.read_exports.new.input) whole.texts whole.read));
      whole = whole.are;
    }
