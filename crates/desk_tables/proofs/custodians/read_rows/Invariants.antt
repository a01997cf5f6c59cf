use Rattle.std.proofs.Common.{◌≡◌, [], map, take}
use Rattle.desk_tables.specs.Custodians as spec
use Rattle.desk_tables.specs.PrivateIndex.{HasDigests}
use Rattle.desk_tables.proofs.QuotedLineLemmas.{faults_on, rows_on}
use Rattle.desk_tables.proofs.custodians.read_rows.Given as goal

-- no line so far has a fault, the custodians are theirs, and the index has their digests
abbrev pub invariant-loop-line : goal.invariant-loop-line
invariant-loop-line l = record {
  sound : faults_on spec.line_answer (take l.line-index l.line-items) ≡ [];
  read : l.rows ≡ rows_on spec.line_answer (take l.line-index l.line-items);
  listed : map (λ row. row.name) l.rows ≡ spec.names_on (take l.line-index l.line-items);
  indexed : HasDigests l.rows l.digests;
}
