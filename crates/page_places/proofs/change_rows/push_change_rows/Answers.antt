use Rattle.std.proofs.Common.{◌++◌, ◌∙◌, ap}
use Rattle.std.specs.String.{string_bytes}
use Rattle.page_html.proofs.Gathered.{writes_values}
use Rattle.page_html.specs.Tables.{row_html}
use Rattle.page_places.specs.ChangeRows.{change_cells, change_frame}
use Rattle.page_places.specs.declared.change_rows.ChangeRow.{ChangeRow}
use Rattle.page_places.proofs.change_rows.push_change_rows.Goals as goal

pub loop-row-preserved : goal.loop-row-preserved
loop-row-preserved c =
    let now = string_bytes c.loop-row.page in
    writes_values change_cells c.args.rows.now c.loop-row.row-index c.row-item.result (row_html change_frame) (string_bytes c.args.page.now) now
    (string_bytes c.push_change_row.new.page) c.loop-row-test.true c.loop-row.invariant
    (c.in_ok-push_change_row.ensures ∙ ap (λ (one : ChangeRow). now ++ row_html change_frame (change_cells one)) c.row-item.is)
