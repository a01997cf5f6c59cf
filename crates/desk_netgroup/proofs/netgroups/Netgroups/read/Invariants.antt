-- No line so far has a fault, and the groups are theirs.
use Rattle.std.proofs.Common.{◌≡◌, [], None, take}
use Rattle.desk_netgroup.specs.GroupLine.{groups_on}
use Rattle.desk_netgroup.specs.Netgroups.{first_fault}
use Rattle.desk_netgroup.proofs.netgroups.Netgroups.read.Given as goal

abbrev pub invariant-loop-line : goal.invariant-loop-line
invariant-loop-line l = record {
  sound : first_fault [] (take l.line-index l.line-items) ≡ None;
  read : l.groups ≡ groups_on (take l.line-index l.line-items);
}
