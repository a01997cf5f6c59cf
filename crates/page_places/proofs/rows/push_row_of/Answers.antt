use Rattle.std.proofs.Common.{◌++◌, ◌∙◌, ap, refl}
use Rattle.std.specs.String.{string_bytes}
use Rattle.std.proofs.lemmas.Result.{on_ok_weaker}
use Rattle.page_findings.specs.Badges.{badge_item}
use Rattle.page_html.specs.Tables.{row_html}
use Rattle.page_html.proofs.Gathered.{cell_before, part_before}
use Rattle.page_places.specs.Rows.{amount, clients, row_value, size_of, verdict_frame}
use Rattle.page_places.proofs.rows.push_row_of.Goals as goal

pub returns : goal.returns
returns c =
    let row = row_value c.args.row.now in
    on_ok_weaker c.push_row.result
    (λ added. added ∙ ap (λ cells. string_bytes c.args.page.now ++ row_html verdict_frame cells)
    (part_before _ _ _ _ (c.badge_part.ensures ∙ ap badge_item c.of.ensures)
    (part_before _ _ _ _ (c.clients_of.ensures ∙ ap (λ spans. clients spans row.verdict) c.requires.spans)
    (part_before _ _ _ _ (ap amount (c.size_of.ensures ∙ ap size_of c.requires.spans)) (cell_before _ _ _ _ c.reason_of-reason.ensures refl)))))
    c.push_row.ensures
