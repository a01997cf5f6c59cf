use Rattle.std.proofs.Common.{◌++◌, ◌∙◌, ap, refl}
use Rattle.std.specs.String.{string_bytes}
use Rattle.std.proofs.lemmas.Result.{on_ok_weaker}
use Rattle.page_html.specs.Items.{Number, Own}
use Rattle.page_html.specs.Tables.{row_html}
use Rattle.page_html.proofs.Gathered.{cell_before, part_before}
use Rattle.page_places.specs.ChangeRows.{change_frame}
use Rattle.page_places.proofs.change_rows.push_change_row.Goals as goal

pub returns : goal.returns
returns c =
    on_ok_weaker c.push_row.result
    (λ added. added ∙ ap (λ cells. string_bytes c.args.page.now ++ row_html change_frame cells)
    (part_before _ _ _ _ c.place_part.ensures (cell_before _ _ _ _ refl (part_before _ _ _ _ (ap (λ n. Own (Number n)) c.span_size.ensures)
    (cell_before _ _ _ _ c.verdict_parts-before.ensures (cell_before _ _ _ _ c.verdict_parts-after.ensures refl))))))
    c.push_row.ensures
