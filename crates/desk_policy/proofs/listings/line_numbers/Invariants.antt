-- The numbers of the lines so far.
use Rattle.std.proofs.Common.{◌≡◌, map, take}
use Rattle.desk_policy.proofs.listings.line_numbers.Given as goal

abbrev pub invariant-loop-row : goal.invariant-loop-row
invariant-loop-row l = l.numbers ≡ map (λ row. row.entry.line) (map (λ row. row.now) (take l.row-index l.rows))
