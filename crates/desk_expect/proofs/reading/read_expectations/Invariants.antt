-- The lines so far are good, and the expectations are what they promise.
use Rattle.std.proofs.Common.{take}
use Rattle.desk_expect.proofs.Gathered.{AreGathered}
use Rattle.desk_expect.proofs.reading.read_expectations.Given as goal

abbrev pub invariant-loop-line : goal.invariant-loop-line
invariant-loop-line l = AreGathered l.netgroups l.hosts (take l.line-index l.line-items) l.found
