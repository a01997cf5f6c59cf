-- The weights from this one on whose slots have keys.
use Rattle.desk_index.proofs.Weights.{UsedSoFar}
use Rattle.desk_index.proofs.keyed.weights_of.Given as goal

abbrev pub invariant-loop-weight : goal.invariant-loop-weight
invariant-loop-weight l = UsedSoFar l.found.items l.slots l.weight
