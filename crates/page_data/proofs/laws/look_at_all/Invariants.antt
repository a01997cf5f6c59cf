-- The lines of the file systems so far.
use Rattle.std.proofs.Common.{All, take}
use Rattle.page_data.specs.Laws.{HaveNumbers}
use Rattle.page_data.proofs.laws.look_at_all.Given as goal

abbrev pub invariant-loop-rows : goal.invariant-loop-rows
invariant-loop-rows l = All HaveNumbers (take l.rows-index l.lists)
