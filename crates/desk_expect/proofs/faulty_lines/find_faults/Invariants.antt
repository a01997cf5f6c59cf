-- The faults are those of the lines so far, each at its place.
use Rattle.std.proofs.Common.{◌≡◌, map, take}
use Rattle.std.specs.List.{All}
use Rattle.desk_expect.specs.FaultyLines.{IsPlaced, faults_of}
use Rattle.desk_expect.specs.declared.rules.PlacedFault.{PlacedFault}
use Rattle.desk_expect.proofs.faulty_lines.find_faults.Given as goal

abbrev pub invariant-loop-line : goal.invariant-loop-line
invariant-loop-line l = record {
  faults : map (λ (one : PlacedFault). one.fault) l.found ≡ faults_of l.netgroups l.hosts (take l.line-index l.line-items);
  placed : All (IsPlaced l.netgroups l.hosts l.text) l.found;
}
