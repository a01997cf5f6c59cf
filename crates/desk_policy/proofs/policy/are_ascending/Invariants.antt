-- The lines so far, each with the one before it.
use Rattle.desk_policy.specs.PrivatePolicy.{AscendUpTo}
use Rattle.desk_policy.proofs.policy.are_ascending.Given as goal

abbrev pub invariant-loop-place : goal.invariant-loop-place
invariant-loop-place l = AscendUpTo l.rows l.place
