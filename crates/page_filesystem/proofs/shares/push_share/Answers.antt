use Rattle.std.proofs.Common.{◌+◌, ◌++◌, ◌∙◌, ap, refl}
use Rattle.std.specs.String.{string_bytes}
use Rattle.std.proofs.lemmas.Result.{on_ok_weaker}
use Rattle.page_html.specs.Items.{Number, Own}
use Rattle.page_html.specs.Tables.{row_html}
use Rattle.page_html.proofs.Gathered.{cell_before, part_before}
use Rattle.page_filesystem.specs.Shares.{frame, granted_items}
use Rattle.page_filesystem.proofs.shares.push_share.Goals as goal

pub returns : goal.returns
returns c =
    let denied = c.args.share.now.counts.denied in
    let granted = c.granted-granted.ensures in
    on_ok_weaker c.push_row.result
    (λ added. added ∙ ap (λ cells. string_bytes c.args.page.now ++ row_html frame cells)
    (part_before _ _ _ _ c.space_part.ensures
    (part_before _ _ _ _ (ap (λ n. Own (Number (denied + n))) granted)
    (part_before _ _ _ _ c.count_part.ensures
    (part_before _ _ _ _ c.count_part-2.ensures
    (part_before _ _ _ _ c.count_part-3.ensures
    (cell_before _ _ _ _ (ap (λ n. granted_items n (denied + n)) granted) refl)))))))
    c.push_row.ensures
