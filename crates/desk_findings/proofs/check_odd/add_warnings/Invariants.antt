-- What is added so far.
use Rattle.std.proofs.Common.{◌≡◌, ◌++◌, map, take}
use Rattle.desk_findings.specs.CheckOdd.{odd_at, odd_of_warning}
use Rattle.desk_findings.proofs.check_odd.add_warnings.Given as goal

abbrev pub invariant-loop-warning : goal.invariant-loop-warning
invariant-loop-warning l = map odd_at l.odds.items ≡ map odd_at l.initial.odds.items ++ map (odd_of_warning l.among) (take l.warning-index l.warnings)
