-- The lines so far are added.
use Rattle.std.proofs.Common.{◌≡◌, ◌++◌, map, take}
use Rattle.desk_impact.proofs.unlike_lines.push_rows.Given as goal

abbrev pub invariant-loop-row : goal.invariant-loop-row
invariant-loop-row l = map (λ row. row.now) l.unlike.items ≡ map (λ row. row.now) l.initial.unlike.items ++ take l.row-index l.rows
