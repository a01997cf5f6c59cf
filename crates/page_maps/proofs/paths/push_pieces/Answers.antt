use Rattle.std.proofs.Common.{◌≡◌, ◌++◌, ◌∙◌, ap, arith}
use Rattle.std.specs.List.{flat_map, range_with_len}
use Rattle.page_html.specs.Images.{image_html}
use Rattle.page_maps.specs.Paths.{piece_at, pieces}
use Rattle.page_maps.proofs.Ranged.{writes_in_range}
use Rattle.page_maps.proofs.paths.push_pieces.Goals as goal

pub loop-x-preserved : goal.loop-x-preserved
loop-x-preserved c = record {
  few = (let less = c.loop-x-test.true in omega arith);
  written = writes_in_range c.loop-x.x (piece_at c.args.row.now c.args.y) (image_html c.args.image.now) (image_html c.loop-x.image) (image_html c.push_piece_at.new.image)
      c.loop-x.invariant.written c.in_ok-push_piece_at.ensures;
}

pub returns : goal.returns
unfolding pieces
returns c =
    let few = c.loop-x.invariant.few in
    let past = c.loop-x-test.false in
    let all : c.loop-x.x ≡ 16 = omega arith in
    c.loop-x.invariant.written ∙ ap (λ n. image_html c.args.image.now ++ flat_map (piece_at c.args.row.now c.args.y) (range_with_len 0 n)) all
