-- The lines of this weight so far.
use Rattle.std.proofs.Common.{◌≡◌, map, take}
use Rattle.std.specs.Prelude.{filter}
use Rattle.desk_text.specs.Address.{number_of}
use Rattle.desk_policy.specs.PrivateWeights.{has_weight}
use Rattle.desk_policy.proofs.weights.all_with.Given as goal

abbrev pub invariant-loop-row : goal.invariant-loop-row
invariant-loop-row l = map (λ row. row.now) l.found.items ≡ filter (has_weight (number_of l.address) l.weight) (take l.row-index l.rows)
