-- What is found of the expectations so far.
use Rattle.std.proofs.Common.{map, take}
use Rattle.desk_expect.specs.Report.{AreBroken, broken_value}
use Rattle.desk_expect.proofs.report.find_broken.Given as goal

abbrev pub invariant-loop-expectation : goal.invariant-loop-expectation
invariant-loop-expectation l = AreBroken l.index (take l.expectation-index l.expectations) (map broken_value l.broken.items)
