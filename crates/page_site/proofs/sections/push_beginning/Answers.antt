use Rattle.std.specs.String.{string_bytes}
use Rattle.std.proofs.lemmas.Result.{on_ok_weaker}
use Rattle.page_html.specs.Head.{page_head}
use Rattle.page_maps.specs.Shapes.{shapes}
use Rattle.page_site.proofs.Pieces.{gains_just, gains_then}
use Rattle.page_site.proofs.sections.push_beginning.Goals as goal

pub returns : goal.returns
returns c =
    let begun = string_bytes c.push_page_head.new.page in
    let drawn = string_bytes c.push_shapes.new.page in
    on_ok_weaker c.push_header_of.result
    (λ ended.
    gains_then (gains_just (page_head c.args.database.now) (string_bytes c.args.page.now) begun c.in_ok-push_page_head.ensures)
    (gains_then (gains_just shapes begun drawn c.in_ok-push_shapes.ensures) ended))
    c.push_header_of.ensures
