use Rattle.std.proofs.Common.{◌++◌, ◌∙◌, ap, refl}
use Rattle.std.specs.String.{string_bytes}
use Rattle.std.proofs.lemmas.Result.{on_ok_weaker}
use Rattle.page_html.specs.Items.{Code, Digest}
use Rattle.page_html.specs.Tables.{row_html}
use Rattle.page_html.proofs.Gathered.{cell_before, part_before}
use Rattle.page_lists.specs.Files.{frame, if_revised, row_value}
use Rattle.page_lists.proofs.files.push_file.Goals as goal

pub returns : goal.returns
returns c =
    let newest = (row_value c.args.row.now).head in
    on_ok_weaker c.push_row.result
    (λ added. added ∙ ap (λ cells. string_bytes c.args.page.now ++ row_html frame cells)
    (part_before _ _ _ _ (ap Code c.name.ensures)
    (part_before _ _ _ _ c.revision_of.ensures
    (part_before _ _ _ _ c.author_of.ensures
    (part_before _ _ _ _ c.approver_of.ensures
    (part_before _ _ _ _ c.profile_of.ensures
    (part_before _ _ _ _ c.size_of.ensures
    (part_before _ _ _ _ (c.if_revised.ensures ∙ ap (λ digest. if_revised newest (Digest digest)) c.as_str.ensures.value)
    (cell_before _ _ _ _ c.remark_of-remark.ensures refl)))))))))
    c.push_row.ensures
