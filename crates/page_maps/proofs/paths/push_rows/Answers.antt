use Rattle.std.proofs.Common.{◌≡◌, ◌++◌, ◌∙◌, ap, arith, length}
use Rattle.std.specs.List.{flat_map, range_with_len}
use Rattle.page_html.specs.Images.{image_html}
use Rattle.std.proofs.lemmas.List.FromFn.{length-map-range_with_len}
use Rattle.page_maps.specs.Paths.{ground_path, is_whole, row_of, row_path, whole_rows}
use Rattle.page_maps.proofs.Ranged.{writes_in_range}
use Rattle.page_maps.proofs.paths.push_rows.Goals as goal

pub push_row-requires-clause-rows : goal.push_row-requires-clause-rows
unfolding whole_rows
push_row-requires-clause-rows c = ap length c.requires.wholes ∙ length-map-range_with_len (λ y. is_whole (row_of c.args.which.now y)) 0 16

pub loop-y-preserved : goal.loop-y-preserved
loop-y-preserved c = record {
  few = (let less = c.loop-y-test.true in omega arith);
  written = writes_in_range c.loop-y.y (row_path c.args.which.now c.args.wholes.now) (image_html c.args.image.now) (image_html c.loop-y.image) (image_html c.push_row.new.image)
      c.loop-y.invariant.written c.in_ok-push_row.ensures;
}

pub returns : goal.returns
unfolding ground_path
returns c =
    let few = c.loop-y.invariant.few in
    let past = c.loop-y-test.false in
    let all : c.loop-y.y ≡ 16 = omega arith in
    c.loop-y.invariant.written ∙ ap (λ n. image_html c.args.image.now ++ flat_map (row_path c.args.which.now c.args.wholes.now) (range_with_len 0 n)) all
    ∙ ap (λ wholes. image_html c.args.image.now ++ flat_map (row_path c.args.which.now wholes) (range_with_len 0 16)) c.requires.wholes
