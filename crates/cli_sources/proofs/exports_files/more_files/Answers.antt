-- The second of a folder comes before those of `--and`.
use Rattle.std.proofs.Common.{◌++◌, ◌∙◌, List, Option, ap, map, ℕ}
use Rattle.cli_words.specs.Words.{rows_in}
use Rattle.cli_sources.specs.ExportsFiles.{and_file, zfs_files}
use Rattle.cli_sources.proofs.ExportsTexts.{file_of, files_of_words}
use Rattle.cli_sources.proofs.exports_files.more_files.Goals as goal

pub returns : goal.returns
returns c =
    ap (λ (zfs : List (List ℕ × Option (List ℕ))). zfs ++ map file_of c.and_files.result.now) c.zfs_file.ensures
    ∙ ap (λ (more : List (List ℕ × Option (List ℕ))). zfs_files c.args.subject.now (rows_in c.args.words.now) ++ more) (files_of_words c.and_files.result.now ∙ ap (map and_file) c.and_files.ensures)
