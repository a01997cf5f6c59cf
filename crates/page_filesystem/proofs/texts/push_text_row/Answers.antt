use Rattle.std.proofs.Common.{◌++◌, ◌∙◌, ap, refl}
use Rattle.std.specs.String.{string_bytes}
use Rattle.std.proofs.lemmas.Result.{on_ok_weaker}
use Rattle.page_html.specs.Tables.{line_row_html}
use Rattle.page_html.proofs.Gathered.{cell_before, part_before}
use Rattle.page_filesystem.specs.Gutter.{count_item, stands_out}
use Rattle.page_filesystem.specs.Texts.{TextLine, frame, text_cells}
use Rattle.page_filesystem.proofs.texts.push_text_row.Goals as goal

pub returns : goal.returns
returns c =
    let page = string_bytes c.args.page.now in
    let fs = c.args.fs.0 in
    let line : TextLine = record { number = c.args.number; note = c.args.note; text = c.args.line.now } in
    let told = c.told_of-told.ensures in
    on_ok_weaker c.push_line_row.result
    (λ added. added ∙ ap (λ cells. page ++ line_row_html fs line.number c.stands_out.result frame cells)
    (cell_before _ _ _ _ refl (cell_before _ _ _ _ c.said_parts-said.ensures (part_before _ _ _ _ (c.count_part.ensures ∙ ap count_item told) refl)))
    ∙ ap (λ marked. page ++ line_row_html fs line.number marked frame (text_cells line))
    (c.stands_out.ensures ∙ ap stands_out told))
    c.push_line_row.ensures
