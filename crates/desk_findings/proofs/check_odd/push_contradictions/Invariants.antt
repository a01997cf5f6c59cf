-- What is added so far.
use Rattle.std.proofs.Common.{◌≡◌, ◌++◌, take}
use Rattle.desk_findings.proofs.check_odd.push_contradictions.Given as goal

abbrev pub invariant-loop-one : goal.invariant-loop-one
invariant-loop-one l = l.found ≡ l.initial.found ++ take l.one-index l.more
