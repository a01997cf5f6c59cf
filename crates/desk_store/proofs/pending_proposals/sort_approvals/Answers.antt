use Rattle.std.proofs.Common.{rules}
use Rattle.std.proofs.lemmas.Fn.{always_returns_same}
use Rattle.std.proofs.lemmas.Result.{on_ok_weaker}
use Rattle.desk_store.specs.StoredRows.{approval_key, is_below}
use Rattle.desk_store.specs.declared.stored_rows.Approval.{Approval}
use Rattle.desk_store.proofs.ApprovalKeys.{of_approvals}
use Rattle.desk_store.proofs.pending_proposals.sort_approvals.Goals as goal

pub returns-clause-order : goal.returns-clause-order
returns-clause-order c =
    on_ok_weaker c.sort_by.result (λ sorted. sorted (λ (one other : Approval). is_below (approval_key other) (approval_key one)) of_approvals (always_returns_same _ _ _ (λ a r f k. search rules))) c.sort_by.ensures.sorted
