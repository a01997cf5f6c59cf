use Rattle.std.proofs.Common.{arith}
use Rattle.desk_store.specs.Rows.{listed}
use Rattle.desk_store.proofs.ListedRows.{listed_more}
use Rattle.desk_store.proofs.rows.listed_rows.Goals as goal

pub loop-row-preserved : goal.loop-row-preserved
loop-row-preserved c =
    listed_more listed c.args.rows.now c.loop-row.row-index c.row-item.result c.loop-row.found.items c.add_listed.new.found.items (omega arith) c.row-item.is c.loop-row.invariant c.in_ok-add_listed.ensures.added
