use Rattle.std.proofs.Common.{◌++◌, ◌∙◌, ap, codes}
use Rattle.page_html.specs.Images.{image_html}
use Rattle.page_maps.specs.Drawing.{axis, label, map_paths}
use Rattle.page_html.proofs.Gaining.{five_pieces}
use Rattle.page_maps.proofs.drawing.push_large_map.Goals as goal

pub returns : goal.returns
returns c =
    let drawn = c.args.drawn.now in
    let s0 = image_html c.args.image.now in
    let s1 = image_html c.push_fixed.new.self in
    let s2 = image_html c.push_label.new.image in
    let s3 = image_html c.push_fixed-2.new.self in
    let s4 = image_html c.push_map_paths.new.image in
    let s5 = image_html c.push_fixed-3.new.self in
    five_pieces s0 s1 s2 s3 s4 s5
    (codes "<svg class=\"big\" viewBox=\"-15 -1 80 66\" role=\"img\" aria-label=\"") (label drawn) (axis drawn.network) (map_paths drawn.cells) (codes "<use href=\"#h\"/></svg>")
    c.in_ok-push_fixed.ensures c.in_ok-push_label.ensures (c.in_ok-push_fixed-2.ensures ∙ ap (λ t. s2 ++ t) c.axis_of.ensures) (c.in_ok-push_map_paths.ensures ∙ ap (λ cells. s3 ++ map_paths cells) c.as_slice.ensures)
    c.in_ok-push_fixed-3.ensures
