-- The greatest weight of the lines so far.
use Rattle.std.proofs.Common.{take}
use Rattle.desk_text.specs.Address.{number_of}
use Rattle.desk_policy.specs.PrivateWeights.{IsGreatest}
use Rattle.desk_policy.proofs.weights.greatest_weight.Given as goal

abbrev pub invariant-loop-row : goal.invariant-loop-row
invariant-loop-row l = IsGreatest (take l.row-index l.rows) (number_of l.address) l.greatest
