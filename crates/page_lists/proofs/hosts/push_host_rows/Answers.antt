use Rattle.std.proofs.Common.{◌++◌, ◌∙◌, ap}
use Rattle.std.specs.String.{string_bytes}
use Rattle.page_html.proofs.Gathered.{writes_values}
use Rattle.page_html.specs.Tables.{row_html}
use Rattle.page_lists.specs.Hosts.{cells, host_frame, row_value}
use Rattle.page_lists.proofs.hosts.push_host_rows.Goals as goal

pub loop-row-preserved : goal.loop-row-preserved
loop-row-preserved c =
    let now = string_bytes c.loop-row.page in
    writes_values (λ row. cells (row_value row)) c.args.rows.now c.loop-row.row-index c.row-item.result (row_html host_frame) (string_bytes c.args.page.now) now
    (string_bytes c.push_host.new.page) c.loop-row-test.true c.loop-row.invariant
    (c.in_ok-push_host.ensures ∙ ap (λ row. now ++ row_html host_frame (cells (row_value row))) c.row-item.is)
