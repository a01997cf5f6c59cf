use Rattle.std.proofs.Common.{◌≡◌, [], take}
use Rattle.desk_tables.specs.FileSystemsText as spec
use Rattle.desk_tables.proofs.FileSystemsTextLemmas.{IsTableBehind}
use Rattle.desk_tables.proofs.QuotedLineLemmas.{faults_on, rows_on}
use Rattle.desk_tables.proofs.filesystems_text.read_mounts.Given as goal

-- no line so far has a fault, and the table has their mount points, each in its place
abbrev pub invariant-loop-line : goal.invariant-loop-line
invariant-loop-line l = record {
  sound : faults_on spec.line_answer (take l.line-index l.line-items) ≡ [];
  read : l.table.items ≡ spec.put_all [] (rows_on spec.line_answer (take l.line-index l.line-items));
  behind : IsTableBehind (take l.line-index l.line-items) l.table.items;
}
