-- The warnings of the entries so far are listed.
use Rattle.std.proofs.Common.{◌≡◌, take}
use Rattle.desk_policy.specs.Warning.{whole_warnings}
use Rattle.desk_policy.proofs.warning.whole_warnings.Given as goal

abbrev pub invariant-loop-entry : goal.invariant-loop-entry
invariant-loop-entry l = l.warnings ≡ whole_warnings l.netgroups l.hosts (take l.entry-index l.entries)
