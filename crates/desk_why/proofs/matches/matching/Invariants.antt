-- The lines of each weight so far; those of a lesser weight are left.
use Rattle.std.proofs.Common.{◌≡◌, ◌++◌, map}
use Rattle.desk_text.specs.Address.{number_of}
use Rattle.desk_why.specs.Matches.{lighter, matching}
use Rattle.desk_why.proofs.matches.matching.Given as goal

abbrev pub invariant-loop-weight : goal.invariant-loop-weight
invariant-loop-weight l = map (λ row. row.now) l.found.items ++ lighter l.rows (number_of l.address) l.weight ≡ matching l.rows (number_of l.address)
