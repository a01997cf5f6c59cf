use Rattle.std.specs.String.{string_bytes}
use Rattle.page_html.specs.PrivateTables.{empty_cell}
use Rattle.page_html.specs.Tables.{column_of}
use Rattle.page_html.proofs.Gathered.{writes_values}
use Rattle.page_html.proofs.tables.push_empty_cells.Goals as goal

pub loop-column-preserved : goal.loop-column-preserved
loop-column-preserved c =
    writes_values column_of c.args.columns.now c.loop-column.column-index _ empty_cell (string_bytes c.args.page.now) (string_bytes c.loop-column.page) (string_bytes c.push_cell.new.page) c.loop-column-test.true c.loop-column.invariant
    c.in_ok-push_cell.ensures
