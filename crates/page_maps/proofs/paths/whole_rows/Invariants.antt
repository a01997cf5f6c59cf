-- The rows so far are told.
use Rattle.std.proofs.Common.{◌≡◌, ◌≤◌, map}
use Rattle.std.specs.List.{range_with_len}
use Rattle.page_maps.specs.Paths.{is_whole, row_of}
use Rattle.page_maps.proofs.paths.whole_rows.Given as goal

abbrev pub invariant-loop-y : goal.invariant-loop-y
invariant-loop-y l = record {
  few : l.y ≤ 16;
  told : l.wholes.items ≡ map (λ y. is_whole (row_of l.which y)) (range_with_len 0 l.y);
}
