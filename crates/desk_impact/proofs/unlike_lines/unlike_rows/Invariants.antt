-- Those so far and the rest of the others are the others, but for what is unlike.
use Rattle.std.proofs.Common.{map, take}
use Rattle.desk_impact.proofs.UnlikeLines.{AreBalanced}
use Rattle.desk_impact.proofs.unlike_lines.unlike_rows.Given as goal

abbrev pub invariant-loop-row : goal.invariant-loop-row
invariant-loop-row l = AreBalanced (take l.row-index l.old) l.rest l.new (map (λ row. row.now) l.unlike.items)
