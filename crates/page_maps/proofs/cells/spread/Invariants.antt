-- The least and the most of the runs so far.
use Rattle.std.proofs.Common.{◌≡◌, take}
use Rattle.page_maps.specs.PrivateCells.{spread_of}
use Rattle.page_maps.proofs.cells.spread.Given as goal

abbrev pub invariant-loop-run : goal.invariant-loop-run
invariant-loop-run l = l.cell ≡ spread_of (take l.run-index l.runs)
