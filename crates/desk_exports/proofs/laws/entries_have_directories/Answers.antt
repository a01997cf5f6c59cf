use Rattle.desk_exports.proofs.EntryDirectories.{of_files, of_lines, of_whole_texts}
use Rattle.desk_exports.proofs.laws.entries_have_directories.Goals as goal

pub returns : goal.returns
returns c = record {
  line = of_lines;
  file = of_files;
  whole = of_whole_texts;
}
