-- No line matches with one of the weights so far, if it is below the bound.
use Rattle.desk_text.specs.Address.{number_of}
use Rattle.desk_index.proofs.WeighedLines.{NoneWeighing}
use Rattle.desk_policy.specs.Policy.{rows_of}
use Rattle.desk_index.proofs.index.Index.heaviest_below.Given as goal

abbrev pub invariant-loop-weight : goal.invariant-loop-weight
invariant-loop-weight l = NoneWeighing (rows_of l.self l.fs.0) (number_of l.address) l.below l.weight-items l.weight-index
