use Rattle.std.specs.String.{string_bytes}
use Rattle.page_html.specs.Tables.{row_html}
use Rattle.page_html.proofs.Gathered.{writes_values}
use Rattle.page_summary.specs.FlavoursTable.{flavours_frame, row_cells}
use Rattle.page_summary.proofs.flavours.push_rows.Goals as goal

pub loop-row-preserved : goal.loop-row-preserved
loop-row-preserved c =
    writes_values row_cells c.args.rows.now c.loop-row.row-index _ (row_html flavours_frame) (string_bytes c.args.page.now) (string_bytes c.loop-row.page)
    (string_bytes c.push_flavours.new.page) c.loop-row-test.true c.loop-row.invariant
    c.in_ok-push_flavours.ensures
