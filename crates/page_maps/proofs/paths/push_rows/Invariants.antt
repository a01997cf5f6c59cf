-- What begins in the rows so far was added.
use Rattle.std.proofs.Common.{◌≡◌, ◌≤◌, ◌++◌}
use Rattle.std.specs.List.{flat_map, range_with_len}
use Rattle.page_html.specs.Images.{image_html}
use Rattle.page_maps.specs.Paths.{row_path}
use Rattle.page_maps.proofs.paths.push_rows.Given as goal

abbrev pub invariant-loop-y : goal.invariant-loop-y
invariant-loop-y l = record {
  few : l.y ≤ 16;
  written : image_html l.image ≡ image_html l.initial.image ++ flat_map (row_path l.which l.wholes) (range_with_len 0 l.y);
}
