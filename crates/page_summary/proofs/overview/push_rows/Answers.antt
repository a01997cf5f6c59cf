use Rattle.std.proofs.Common.{◌++◌, ◌∙◌, ap}
use Rattle.std.specs.String.{string_bytes}
use Rattle.page_html.proofs.Gathered.{writes_values}
use Rattle.page_html.specs.Tables.{row_html}
use Rattle.page_summary.specs.Overview.{cells, overview_frame}
use Rattle.page_summary.specs.declared.overview.SystemRow.{SystemRow}
use Rattle.page_summary.proofs.overview.push_rows.Goals as goal

pub loop-row-preserved : goal.loop-row-preserved
loop-row-preserved c =
    let now = string_bytes c.loop-row.page in
    writes_values cells c.args.rows.now c.loop-row.row-index c.row-item.result (row_html overview_frame) (string_bytes c.args.page.now) now
    (string_bytes c.push_system.new.page) c.loop-row-test.true c.loop-row.invariant
    (c.in_ok-push_system.ensures ∙ ap (λ (row : SystemRow). now ++ row_html overview_frame (cells row)) c.row-item.is)
