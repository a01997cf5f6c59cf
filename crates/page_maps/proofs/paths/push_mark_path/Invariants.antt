-- The marks of the cells so far were added.
use Rattle.std.proofs.Common.{◌≡◌, ◌≤◌, ◌++◌}
use Rattle.std.specs.List.{flat_map, range_with_len}
use Rattle.page_html.specs.Images.{image_html}
use Rattle.page_maps.specs.Paths.{mark_at}
use Rattle.page_maps.proofs.paths.push_mark_path.Given as goal

abbrev pub invariant-loop-cell : goal.invariant-loop-cell
invariant-loop-cell l = record {
  few : l.cell ≤ 256;
  written : image_html l.image ≡ image_html l.initial.image ++ flat_map (mark_at l.which l.fn.mark) (range_with_len 0 l.cell);
}
