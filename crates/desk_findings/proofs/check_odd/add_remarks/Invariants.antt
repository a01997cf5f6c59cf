-- What is added so far.
use Rattle.std.proofs.Common.{◌≡◌, ◌++◌, map, take}
use Rattle.desk_findings.specs.CheckOdd.{odd_at, odd_of_remark}
use Rattle.desk_findings.proofs.check_odd.add_remarks.Given as goal

abbrev pub invariant-loop-one : goal.invariant-loop-one
invariant-loop-one l = map odd_at l.odds.items ≡ map odd_at l.initial.odds.items ++ map odd_of_remark (take l.one-index l.remarks)
