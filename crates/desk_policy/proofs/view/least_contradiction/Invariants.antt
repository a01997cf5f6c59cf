-- The file systems so far have no contradiction.
use Rattle.std.proofs.Common.{ℕ, ◌<◌}
use Rattle.desk_policy.specs.Contradiction.{AreConsistent}
use Rattle.desk_policy.specs.Policy.{rows_of}
use Rattle.desk_policy.proofs.view.least_contradiction.Given as goal

abbrev pub invariant-loop-place : goal.invariant-loop-place
invariant-loop-place l = (fs : ℕ) → fs < l.place → AreConsistent (rows_of l.policy fs)
