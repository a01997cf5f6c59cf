-- The lines of the numbers so far.
use Rattle.std.proofs.Common.{◌≡◌, All, Contains, List, map, take}
use Rattle.desk_policy.specs.declared.row.Row.{Row}
use Rattle.desk_index.specs.Keys.{numbers}
use Rattle.desk_index.proofs.numbered.rows_numbered.Given as goal

abbrev pub invariant-loop-line : goal.invariant-loop-line
invariant-loop-line l = (chosen : List Row) → l.lines ≡ numbers chosen → All (Contains l.rows) chosen → map (λ row. row.now) l.found.items ≡ take l.line-index chosen
