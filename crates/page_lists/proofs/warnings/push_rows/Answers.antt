use Rattle.std.specs.String.{string_bytes}
use Rattle.page_html.proofs.Gathered.{writes_values}
use Rattle.page_html.specs.Tables.{row_html}
use Rattle.page_lists.specs.Warnings.{cells, frame, row_value}
use Rattle.page_lists.proofs.warnings.push_rows.Goals as goal

pub loop-row-preserved : goal.loop-row-preserved
loop-row-preserved c =
    writes_values (λ row. cells (row_value row)) c.args.rows.now c.loop-row.row-index _ (row_html frame) (string_bytes c.args.page.now) (string_bytes c.loop-row.page)
    (string_bytes c.push_warning.new.page) c.loop-row-test.true c.loop-row.invariant
    c.in_ok-push_warning.ensures
