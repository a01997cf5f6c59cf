-- The contradictions of the files so far.
use Rattle.std.proofs.Common.{take}
use Rattle.desk_findings.specs.CheckOdd.{AreContradictionsIn}
use Rattle.desk_findings.proofs.check_odd.contradictions_in.Given as goal

abbrev pub invariant-loop-rows : goal.invariant-loop-rows
invariant-loop-rows l = AreContradictionsIn (take l.rows-index l.files) l.found
