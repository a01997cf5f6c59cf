-- The cells so far, one for each number.
use Rattle.std.proofs.Common.{◌≡◌, ◌<◌, ◌≤◌, ℕ, length}
use Rattle.std.specs.Prelude.{slice_index_or}
use Rattle.desk_text.specs.Network.{last_of}
use Rattle.page_data.specs.declared.class.Class.{Class}
use Rattle.page_maps.specs.Cells.{AreLeastAndMost, cell_first, cell_last}
use Rattle.page_maps.specs.PrivateCells.{TellClasses}
use Rattle.page_maps.specs.declared.cells.Cell.{Cell}
use Rattle.page_maps.proofs.cells.cells_of.Given as goal

abbrev pub invariant-loop-number : goal.invariant-loop-number
invariant-loop-number l = record {
  few : l.number ≤ 256;
  count : length l.cells.items ≡ l.number;
  each : (class_at : ℕ → Class) → TellClasses class_at l.fn.network.first (last_of l.fn.network) l.own → (number : ℕ) (default : Cell) → number < l.number
      → AreLeastAndMost class_at (cell_first l.fn.network number) (cell_last l.fn.network number) (slice_index_or l.cells.items number default);
}
