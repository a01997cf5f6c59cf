use Rattle.std.proofs.Common.{◌≡◌, All, map, take}
use Rattle.desk_store.specs.StoredRows.{HasUtf8Approver, row_of_approval}
use Rattle.desk_store.proofs.stored_rows.approvals_in.Given as goal

abbrev pub invariant-loop-row : goal.invariant-loop-row
invariant-loop-row l = (map row_of_approval l.approvals.items ≡ take l.row-index l.rows) × All HasUtf8Approver l.approvals.items
