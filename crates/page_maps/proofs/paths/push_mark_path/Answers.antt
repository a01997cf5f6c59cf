use Rattle.std.proofs.Common.{◌≡◌, ◌++◌, ◌∙◌, ap, arith}
use Rattle.std.specs.List.{flat_map, range_with_len}
use Rattle.page_html.specs.Images.{image_html}
use Rattle.page_maps.specs.Paths.{mark_at, mark_path}
use Rattle.page_maps.proofs.Ranged.{writes_in_range}
use Rattle.page_maps.proofs.paths.push_mark_path.Goals as goal

pub loop-cell-preserved : goal.loop-cell-preserved
loop-cell-preserved c = record {
  few = (let less = c.loop-cell-test.true in omega arith);
  written = writes_in_range c.loop-cell.cell (mark_at c.args.which.now c.args.mark) (image_html c.args.image.now) (image_html c.loop-cell.image) (image_html c.push_mark_at.new.image)
      c.loop-cell.invariant.written c.in_ok-push_mark_at.ensures;
}

pub returns : goal.returns
unfolding mark_path
returns c =
    let few = c.loop-cell.invariant.few in
    let past = c.loop-cell-test.false in
    let all : c.loop-cell.cell ≡ 256 = omega arith in
    c.loop-cell.invariant.written ∙ ap (λ n. image_html c.args.image.now ++ flat_map (mark_at c.args.which.now c.args.mark) (range_with_len 0 n)) all
