-- What was read is lent.
use Rattle.std.proofs.Common.{◌++◌, List, Ok, subst, sym, ℕ}
use Rattle.cli_files.specs.Files.{ReadsFiles}
use Rattle.cli_sources.specs.ExportsFiles.{more_list}
use Rattle.cli_sources.specs.TableFiles.{named}
use Rattle.cli_sources.specs.WholeFiles.{files_of}
use Rattle.cli_sources.proofs.ExportsTexts.{whole_source}
use Rattle.cli_sources.proofs.whole_files.whole_sources.Goals as goal

pub returns-clause-are : goal.returns-clause-are
returns-clause-are c = λ known at. record {
  exports = at.exports;
  read = subst (λ (texts : List (List ℕ)). ReadsFiles (files_of c.args.files) known (Ok (texts ++ at.exports))) (sym c.table_sources.ensures.texts) at.read;
  paths = c.table_sources.ensures.paths;
  plain = c.table_sources.ensures.plain;
  whole = whole_source (named c.args.files.exports) (more_list c.args.files.more) at.exports c.args.texts.now.exports c.exports_source.result at.whole c.exports_source.ensures.path c.exports_source.ensures.text c.exports_source.ensures.origins;
}
