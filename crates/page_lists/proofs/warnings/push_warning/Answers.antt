use Rattle.std.proofs.Common.{◌++◌, ◌∙◌, ap, refl}
use Rattle.std.specs.String.{string_bytes}
use Rattle.std.proofs.lemmas.Result.{on_ok_weaker}
use Rattle.page_html.specs.Tables.{row_html}
use Rattle.page_html.proofs.Gathered.{cell_before, part_before}
use Rattle.page_lists.specs.Warnings.{frame}
use Rattle.page_lists.proofs.warnings.push_warning.Goals as goal

pub returns : goal.returns
returns c =
    on_ok_weaker c.push_row.result
    (λ added. added ∙ ap (λ cells. string_bytes c.args.page.now ++ row_html frame cells)
    (part_before _ _ _ _ refl
    (cell_before _ _ _ _ c.line_of-line.ensures
    (part_before _ _ _ _ refl
    (part_before _ _ _ _ c.name_of.ensures
    (part_before _ _ _ _ c.meaning_of.ensures refl))))))
    c.push_row.ensures
