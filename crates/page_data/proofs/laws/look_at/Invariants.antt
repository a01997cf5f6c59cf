-- The numbers so far.
use Rattle.std.proofs.Common.{◌<◌, ◌^◌, All, take}
use Rattle.page_data.proofs.laws.look_at.Given as goal

abbrev pub invariant-loop-row : goal.invariant-loop-row
invariant-loop-row l = All (λ row. row.entry.line < 2 ^ 32) (take l.row-index l.rows)
