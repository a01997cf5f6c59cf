-- The faults are those of the lines so far, and what is listed are the mount points of the good ones.
use Rattle.std.proofs.Common.{◌≡◌, [], map, take}
use Rattle.std.specs.List.{All}
use Rattle.desk_tables.specs.Faults.{IsOnLine}
use Rattle.desk_tables.specs.FileSystemsText as spec
use Rattle.desk_tables.specs.QuotedLines.{faults_after, with_lines}
use Rattle.desk_tables.specs.declared.faults.PlacedFault.{PlacedFault}
use Rattle.desk_tables.proofs.filesystems_text.find_faults.Given as goal

abbrev pub invariant-loop-line : goal.invariant-loop-line
invariant-loop-line l = record {
  faults : map (λ (one : PlacedFault). one.fault) l.found ≡ faults_after spec.row_answer [] (take l.line-index l.line-items);
  rows : l.listed.items ≡ with_lines spec.row_answer [] (take l.line-index l.line-items);
  placed : All (IsOnLine l.text) l.found;
}
