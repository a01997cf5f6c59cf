-- The faults are those of the lines so far, and the digests those of the custodians that the good ones list.
use Rattle.std.proofs.Common.{◌≡◌, [], map, take}
use Rattle.std.specs.List.{All}
use Rattle.desk_tables.specs.Custodians as spec
use Rattle.desk_tables.specs.Faults.{IsOnLineOrWhole}
use Rattle.desk_tables.specs.PrivateIndex.{HasDigests}
use Rattle.desk_tables.specs.QuotedLines.{faults_after, with_lines}
use Rattle.desk_tables.specs.declared.faults.PlacedFault.{PlacedFault}
use Rattle.desk_tables.proofs.custodians.Custodians.faults.Given as goal

abbrev pub invariant-loop-line : goal.invariant-loop-line
invariant-loop-line l = record {
  faults : map (λ (one : PlacedFault). one.fault) l.found ≡ faults_after spec.row_answer [] (take l.line-index l.line-items);
  indexed : HasDigests (with_lines spec.row_answer [] (take l.line-index l.line-items)) l.digests;
  placed : All (IsOnLineOrWhole l.text) l.found;
}
