use Rattle.std.proofs.Common.{◌++◌, ◌∙◌, ap, refl}
use Rattle.std.specs.Prelude.{not}
use Rattle.std.specs.String.{string_bytes}
use Rattle.std.proofs.lemmas.Result.{on_ok_weaker}
use Rattle.page_html.specs.Tables.{marked_row_html}
use Rattle.page_html.proofs.Gathered.{cell_before, part_before}
use Rattle.page_filesystem.specs.Proposals.{frame, not_yet, proposed_cells}
use Rattle.page_filesystem.proofs.proposals.push_proposed_row.Goals as goal

pub returns : goal.returns
returns c =
    let page = string_bytes c.args.page.now in
    on_ok_weaker c.push_marked_row.result
    (λ added given has.
    let same = c.contains-is_in_force.ensures ∙ has c.args.line in
    added ∙ ap (λ cells. page ++ marked_row_html (not c.contains-is_in_force.result) frame cells)
    (cell_before _ _ _ _ refl (part_before _ _ _ _ (c.not_yet.ensures ∙ ap not_yet same) refl))
    ∙ ap (λ is. page ++ marked_row_html (not is) frame (proposed_cells given c.args.number c.args.line.now)) same)
    c.push_marked_row.ensures
