-- The faults are those of the lines so far, and the groups those of the good ones.
use Rattle.std.proofs.Common.{◌≡◌, [], map, take}
use Rattle.std.specs.List.{All}
use Rattle.desk_netgroup.specs.Faults.{IsPlaced}
use Rattle.desk_netgroup.specs.Netgroups.{faults_after, with_lines}
use Rattle.desk_netgroup.specs.declared.faults.PlacedFault.{PlacedFault}
use Rattle.desk_netgroup.proofs.netgroups.Netgroups.faults.Given as goal

abbrev pub invariant-loop-line : goal.invariant-loop-line
invariant-loop-line l = record {
  faults : map (λ (one : PlacedFault). one.fault) l.found ≡ faults_after [] (take l.line-index l.line-items);
  groups : l.groups ≡ with_lines [] (take l.line-index l.line-items);
  placed : All (IsPlaced l.text) l.found;
}
