-- None so far is at fault.
use Rattle.desk_expect.specs.PrivateFaults.{test_of}
use Rattle.desk_expect.proofs.FaultWords.{NoneUpTo}
use Rattle.desk_expect.proofs.faults.first_at_fault.Given as goal

abbrev pub invariant-loop-place : goal.invariant-loop-place
invariant-loop-place l = NoneUpTo (test_of l.netgroups l.hosts l.rule) l.names l.place
