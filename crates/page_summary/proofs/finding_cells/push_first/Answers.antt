use Rattle.std.proofs.Common.{◌++◌, ◌∙◌, ap, map, refl, sym}
use Rattle.std.specs.String.{string_bytes}
use Rattle.std.proofs.lemmas.List.{length-map}
use Rattle.page_html.specs.Parts.{item_of}
use Rattle.page_html.specs.Tables.{frame_of, row_html}
use Rattle.page_html.proofs.Gathered.{cell_before, part_before}
use Rattle.page_findings.specs.Badges.{level_item}
use Rattle.page_summary.specs.Findings.{row_value, what}
use Rattle.page_summary.proofs.finding_cells.push_first.Goals as goal

pub returns : goal.returns
returns c =
    let many = sym (length-map c.args.lines.now row_value) in
    c.in_ok-push_row.ensures
    ∙ ap (λ cells. string_bytes c.args.page.now ++ row_html (frame_of c.args.frame.now) cells)
    (c.four_cells.ensures ∙ part_before _ _ _ _ (c.level_part.ensures ∙ ap level_item c.level.ensures)
    (cell_before _ _ _ _ (ap (map item_of) c.as_slice.ensures.value ∙ c.in_ok-places.ensures)
    (cell_before _ _ _ _ (ap (map item_of) c.as_slice-2.ensures.value ∙ c.in_ok-what.ensures ∙ ap (what (row_value c.args.first.now)) many) refl)))
