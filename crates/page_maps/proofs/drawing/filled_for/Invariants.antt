-- The cells so far are told.
use Rattle.std.proofs.Common.{◌≡◌, map, take}
use Rattle.page_data.specs.Class.{same_class}
use Rattle.page_maps.proofs.drawing.filled_for.Given as goal

abbrev pub invariant-loop-cell : goal.invariant-loop-cell
invariant-loop-cell l = l.filled.items ≡ map (λ cell. same_class cell.least l.fn.class) (take l.cell-index l.cells)
