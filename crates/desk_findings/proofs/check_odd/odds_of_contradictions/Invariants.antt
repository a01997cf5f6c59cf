-- What is odd so far.
use Rattle.std.proofs.Common.{◌≡◌, map, take}
use Rattle.desk_findings.specs.CheckOdd.{odd_at, odd_of_contradiction}
use Rattle.desk_findings.proofs.check_odd.odds_of_contradictions.Given as goal

abbrev pub invariant-loop-one : goal.invariant-loop-one
invariant-loop-one l = map odd_at l.odds.items ≡ map odd_of_contradiction (take l.one-index l.contradictions)
