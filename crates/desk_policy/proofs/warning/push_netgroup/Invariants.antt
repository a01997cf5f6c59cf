-- The warnings of the lines so far were added.
use Rattle.std.proofs.Common.{◌≡◌, ◌++◌, take}
use Rattle.std.specs.List.{flat_map}
use Rattle.desk_policy.specs.Warning.{group_warnings}
use Rattle.desk_policy.proofs.warning.push_netgroup.Given as goal

abbrev pub invariant-loop-line : goal.invariant-loop-line
invariant-loop-line l = l.warnings ≡ l.initial.warnings ++ flat_map (group_warnings l.netgroups l.hosts) (take l.line-index l.netgroups)
