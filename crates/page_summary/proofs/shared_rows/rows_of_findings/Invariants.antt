-- The lines so far in rows, and the places of these.
use Rattle.std.proofs.Common.{take}
use Rattle.page_summary.specs.PrivateSharedRows.{ArePlaced}
use Rattle.page_summary.specs.SharedRows.{AreSharedRows}
use Rattle.page_summary.proofs.shared_rows.rows_of_findings.Given as goal

abbrev pub invariant-loop-line : goal.invariant-loop-line
invariant-loop-line l = record {
  placed : ArePlaced l.places l.rows.items;
  shared : AreSharedRows (take l.line-index l.lines) l.rows.items;
}
