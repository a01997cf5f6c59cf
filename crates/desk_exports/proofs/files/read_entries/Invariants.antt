use Rattle.std.proofs.Common.{◌≡◌, ◌++◌, length}
use Rattle.desk_text.specs.Lines.{logical_lines}
use Rattle.desk_exports.specs.Files.{line_says}
use Rattle.desk_exports.specs.Laws.{faults}
use Rattle.desk_exports.specs.Tables.{table_rows}
use Rattle.desk_exports.proofs.FileLemmas.{found}
use Rattle.desk_exports.proofs.files.read_entries.Given as goal

-- no line so far has a fault, and the entries are theirs
abbrev pub invariant-loop-entries : goal.invariant-loop-entries
invariant-loop-entries l = record {
  sound : faults (line_says (table_rows l.tables) l.scope) (logical_lines l.text) ≡ faults (line_says (table_rows l.tables) l.scope) l.lines;
  read : l.entries ++ found (line_says (table_rows l.tables) l.scope) l.lines ≡ found (line_says (table_rows l.tables) l.scope) (logical_lines l.text);
}

abbrev pub decreases-loop-entries : goal.decreases-loop-entries
decreases-loop-entries l = length l.lines
