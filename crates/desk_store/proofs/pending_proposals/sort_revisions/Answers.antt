use Rattle.std.proofs.Common.{rules}
use Rattle.std.proofs.lemmas.Fn.{always_returns_same}
use Rattle.std.proofs.lemmas.Result.{on_ok_weaker}
use Rattle.desk_core.specs.Head.{Revision}
use Rattle.desk_store.specs.StoredRows.{is_below, revision_key}
use Rattle.desk_store.proofs.ApprovalKeys.{of_revisions}
use Rattle.desk_store.proofs.pending_proposals.sort_revisions.Goals as goal

pub returns-clause-order : goal.returns-clause-order
returns-clause-order c =
    on_ok_weaker c.sort_by.result (λ sorted. sorted (λ (one other : Revision). is_below (revision_key one) (revision_key other)) of_revisions (always_returns_same _ _ _ (λ a r f k. search rules))) c.sort_by.ensures.sorted
