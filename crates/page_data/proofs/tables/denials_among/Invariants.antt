-- The rows so far that deny.
use Rattle.std.proofs.Common.{◌≡◌, cond, take}
use Rattle.std.specs.List.{sum_by}
use Rattle.page_data.specs.Rows.{row_value}
use Rattle.page_data.specs.Tables.{grants_row}
use Rattle.page_data.proofs.tables.denials_among.Given as goal

abbrev pub invariant-loop-row : goal.invariant-loop-row
invariant-loop-row l = l.count ≡ sum_by (λ row. cond (grants_row (row_value row)) 0 1) (take l.row-index l.rows)
