use Rattle.std.proofs.Common.{◌++◌, ◌∷◌, ◌∙◌, [], ap, map, refl}
use Rattle.std.specs.String.{string_bytes}
use Rattle.std.proofs.lemmas.Result.{on_ok_weaker}
use Rattle.page_html.specs.Items.{Number, Own}
use Rattle.page_html.specs.Parts.{item_of}
use Rattle.page_html.specs.Tables.{row_html}
use Rattle.page_maps.proofs.Itemed.{item_before}
use Rattle.page_maps.specs.NetworkCells.{alike_cell, mixed_cell}
use Rattle.page_maps.specs.NetworkTable.{frame}
use Rattle.page_maps.proofs.network_table.push_network.Goals as goal

pub returns : goal.returns
returns c =
    let content = c.args.policy.now in
    on_ok_weaker c.push_row.result
    (λ added. added ∙ ap (λ cells. string_bytes c.args.page.now ++ row_html frame cells)
    (c.four_cells.ensures ∙ item_before _ _ _ _ (ap (λ item. item ∷ []) c.network_part.ensures)
    (item_before _ _ _ _ (ap (λ n. Own (Number n) ∷ []) c.size_of.ensures)
    (item_before _ _ _ _ (ap (map item_of) c.as_slice-3.ensures.value ∙ c.in_ok-alike.ensures ∙ ap (alike_cell content) c.as_slice.ensures)
    (item_before _ _ _ _ (ap (map item_of) c.as_slice-4.ensures.value ∙ c.in_ok-mixed.ensures ∙ ap (mixed_cell content) c.as_slice-2.ensures)
    refl)))))
    c.push_row.ensures
