-- The pieces that begin at the cells so far were added.
use Rattle.std.proofs.Common.{◌≡◌, ◌≤◌, ◌++◌}
use Rattle.std.specs.List.{flat_map, range_with_len}
use Rattle.page_html.specs.Images.{image_html}
use Rattle.page_maps.specs.Paths.{piece_at}
use Rattle.page_maps.proofs.paths.push_pieces.Given as goal

abbrev pub invariant-loop-x : goal.invariant-loop-x
invariant-loop-x l = record {
  few : l.x ≤ 16;
  written : image_html l.image ≡ image_html l.initial.image ++ flat_map (piece_at l.row l.fn.y) (range_with_len 0 l.x);
}
