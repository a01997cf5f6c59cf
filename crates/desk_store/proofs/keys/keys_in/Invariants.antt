use Rattle.std.proofs.Common.{◌≡◌, map, take}
use Rattle.sqlite.specs.Order.{column}
use Rattle.sqlite.specs.declared.types.Value.TheVariants.{Int}
use Rattle.desk_store.proofs.keys.keys_in.Given as goal

abbrev pub invariant-loop-row : goal.invariant-loop-row
invariant-loop-row l = map (λ row. column row 0) (take l.row-index l.rows) ≡ map Int l.keys.items
