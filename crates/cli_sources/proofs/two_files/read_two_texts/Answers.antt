-- The exports texts and the second are read after the tables, and at most one file is standard input.
use Rattle.std.proofs.Common.{◌++◌, ◌∷◌, [], List, Option, inl, map, refl, subst, sym, ℕ}
use Rattle.std.proofs.lemmas.Result.{err_from_is_err_and}
use Rattle.std.specs.String.{string_bytes}
use Rattle.cli_sources.specs.ExportsFiles.{IsWhole, exports_list, named_texts}
use Rattle.cli_sources.specs.TableFiles.{named, table_list}
use Rattle.cli_sources.specs.TwoFiles.{files_of_two}
use Rattle.cli_sources.proofs.ExportsTexts.{all_but_last}
use Rattle.cli_sources.proofs.FilesInTurn.{either, fails_before, fails_on, once, once_or, reads_on}
use Rattle.cli_sources.proofs.two_files.read_two_texts.Goals as goal

pub returns-in_err-tables-clause-texts : goal.returns-in_err-tables-clause-texts
returns-in_err-tables-clause-texts g c =
    let p = err_from_is_err_and c.from_residual.result c.from_residual.ensures.1 in
    let tables = map named (table_list c.args.files.whole.tables) in
    let exports = exports_list c.args.files.whole.exports c.args.files.whole.more in
    let second = named c.args.files.second ∷ [] in
    rw (p.1, p.2)
    (inl (once (files_of_two c.args.files) (g.I.Read.remaining c.args.input.now) _ _ c.names_input_twice.ensures c.if-names_input_twice.false
    (fails_before tables (exports ++ second) (g.I.Read.remaining c.args.input.now) c.in_err-tables.field-0.0 c.in_err-tables.ensures.texts)))

pub returns-in_err-first-clause-texts : goal.returns-in_err-first-clause-texts
returns-in_err-first-clause-texts g c =
    let p = err_from_is_err_and c.from_residual-in_err-first.result c.from_residual-in_err-first.ensures.1 in
    let tables = map named (table_list c.args.files.whole.tables) in
    let exports = exports_list c.args.files.whole.exports c.args.files.whole.more in
    let second = named c.args.files.second ∷ [] in
    let between = g.I.Read.remaining c.read_tables.new.input in
    rw (p.1, p.2)
    (once_or (files_of_two c.args.files) (g.I.Read.remaining c.args.input.now) _ _ c.names_input_twice.ensures c.if-names_input_twice.false
    (either (λ fails. fails_on tables (exports ++ second) (g.I.Read.remaining c.args.input.now) between (map string_bytes (table_list c.in_ok-tables.tables)) c.in_err-first.field-0.0 c.in_ok-tables.ensures.texts
    (fails_before exports second between c.in_err-first.field-0.0 fails))
    c.in_err-first.ensures.text))

pub returns-in_err-second-clause-texts : goal.returns-in_err-second-clause-texts
returns-in_err-second-clause-texts g c =
    let p = err_from_is_err_and c.from_residual-in_err-second.result c.from_residual-in_err-second.ensures.1 in
    let tables = map named (table_list c.args.files.whole.tables) in
    let exports = exports_list c.args.files.whole.exports c.args.files.whole.more in
    let second = named c.args.files.second ∷ [] in
    let between = g.I.Read.remaining c.read_tables.new.input in
    let whole = c.in_ok-first.ensures.text in
    rw (p.1, p.2)
    (inl (once (files_of_two c.args.files) (g.I.Read.remaining c.args.input.now) _ _ c.names_input_twice.ensures c.if-names_input_twice.false
    (fails_on tables (exports ++ second) (g.I.Read.remaining c.args.input.now) between (map string_bytes (table_list c.in_ok-tables.tables)) c.in_err-second.field-0.0 c.in_ok-tables.ensures.texts
    (fails_on exports second between (g.I.Read.remaining c.read_exports.new.input) whole.texts c.in_err-second.field-0.0 whole.read (inl c.in_err-second.ensures.text)))))

pub returns-clause-texts : goal.returns-clause-texts
returns-clause-texts g c =
    let tables = map named (table_list c.args.files.whole.tables) in
    let exports = exports_list c.args.files.whole.exports c.args.files.whole.more in
    let second = named c.args.files.second ∷ [] in
    let between = g.I.Read.remaining c.read_tables.new.input in
    let whole = c.in_ok-first.ensures.text in
    record {
      exports = whole.texts;
      read = once (files_of_two c.args.files) (g.I.Read.remaining c.args.input.now) _ _ c.names_input_twice.ensures c.if-names_input_twice.false
          (reads_on tables (exports ++ second) (g.I.Read.remaining c.args.input.now) between (map string_bytes (table_list c.in_ok-tables.tables)) (whole.texts ++ string_bytes c.in_ok-second.second ∷ []) c.in_ok-tables.ensures.texts
          (reads_on exports second between (g.I.Read.remaining c.read_exports.new.input) whole.texts (string_bytes c.in_ok-second.second ∷ []) whole.read
          (c.in_ok-second.ensures.text, (g.I.Read.remaining c.read_file.new.input, (c.read_file.ensures.left, refl)))));
      whole = subst (λ (some : List (List ℕ × Option (List ℕ))). IsWhole (named_texts some whole.texts) c.in_ok-first.first)
          (sym (all_but_last (named c.args.files.whole.tables.hosts) (named c.args.files.whole.tables.networks) (named c.args.files.whole.tables.passwd) (named c.args.files.whole.tables.group) (named c.args.files.whole.tables.netgroup) exports (named c.args.files.second))) whole.are;
    }
