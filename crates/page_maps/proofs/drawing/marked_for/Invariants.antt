-- The cells so far are told.
use Rattle.std.proofs.Common.{◌≡◌, ◌&&◌, map, take}
use Rattle.std.specs.Prelude.{not}
use Rattle.page_data.specs.Class.{same_class}
use Rattle.page_maps.proofs.drawing.marked_for.Given as goal

abbrev pub invariant-loop-cell : goal.invariant-loop-cell
invariant-loop-cell l = l.marked.items ≡ map (λ cell. same_class cell.most l.fn.class && not (same_class cell.least l.fn.class)) (take l.cell-index l.cells)
