-- What was read is lent.
use Rattle.std.proofs.Common.{◌++◌, ◌∙◌, ◌∷◌, [], List, Ok, Option, map, subst, sym, ℕ}
use Rattle.std.specs.String.{string_bytes}
use Rattle.cli_files.specs.Files.{ReadsFiles}
use Rattle.cli_sources.specs.ExportsFiles.{IsWhole, IsWholeSource, exports_list, more_list, named_texts}
use Rattle.cli_sources.specs.TableFiles.{named, table_list}
use Rattle.cli_sources.specs.TwoFiles.{files_of_two}
use Rattle.cli_sources.proofs.ExportsTexts.{all_but_last, last_of_all, whole_source}
use Rattle.cli_sources.proofs.two_files.two_sources.Goals as goal

pub returns-clause-are : goal.returns-clause-are
returns-clause-are c =
    let files = files_of_two c.args.files in
    let tables = c.args.files.whole.tables in
    let exports = exports_list c.args.files.whole.exports c.args.files.whole.more in
    let firsts = all_but_last (named tables.hosts) (named tables.networks) (named tables.passwd) (named tables.group) (named tables.netgroup) exports (named c.args.files.second) in
    let last = last_of_all (named tables.hosts) (named tables.networks) (named tables.passwd) (named tables.group) (named tables.netgroup) exports (named c.args.files.second) in
    λ known at. record {
      exports = at.exports;
      read = subst (λ (texts : List (List ℕ)). ReadsFiles files known (Ok (texts ++ at.exports ++ c.source_of.result.text.now ∷ []))) (sym c.table_sources.ensures.texts)
          (subst (λ (text : List ℕ). ReadsFiles files known (Ok (map string_bytes (table_list c.args.texts.now.tables) ++ at.exports ++ text ∷ []))) (sym (c.source_of.ensures.text ∙ c.as_str.ensures.value)) at.read);
      paths = c.table_sources.ensures.paths;
      second = c.source_of.ensures.path ∙ sym last;
      plain = c.table_sources.ensures.plain;
      alone = c.source_of.ensures.origins;
      whole = subst (λ (some : List (List ℕ × Option (List ℕ))). IsWholeSource (named_texts some at.exports) c.exports_source.result) (sym firsts)
          (whole_source (named c.args.files.whole.exports) (more_list c.args.files.whole.more) at.exports c.args.texts.now.first c.exports_source.result
          (subst (λ (some : List (List ℕ × Option (List ℕ))). IsWhole (named_texts some at.exports) c.args.texts.now.first) firsts at.whole)
          c.exports_source.ensures.path c.exports_source.ensures.text c.exports_source.ensures.origins);
    }
