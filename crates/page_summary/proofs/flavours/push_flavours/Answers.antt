use Rattle.std.proofs.Common.{◌++◌, ◌∙◌, ap, map, refl}
use Rattle.std.specs.String.{string_bytes}
use Rattle.page_html.specs.Parts.{item_of}
use Rattle.page_html.specs.Tables.{row_html}
use Rattle.page_html.proofs.Gathered.{cell_before}
use Rattle.page_summary.specs.FlavoursTable.{flavours_frame}
use Rattle.page_summary.proofs.flavours.push_flavours.Goals as goal

pub returns : goal.returns
returns c =
    let systems = ap (map item_of) c.as_slice.ensures.value ∙ c.in_ok-systems.ensures in
    c.in_ok-push_row.ensures
    ∙ ap (λ cells. string_bytes c.args.page.now ++ row_html flavours_frame cells)
    (c.five_cells.ensures
    ∙ cell_before _ _ _ _ refl (cell_before _ _ _ _ refl (cell_before _ _ _ _ refl (cell_before _ _ _ _ refl (cell_before _ _ _ _ systems refl)))))
