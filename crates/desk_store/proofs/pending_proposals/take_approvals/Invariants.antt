use Rattle.std.proofs.Common.{◌≡◌, ◌++◌, drop, reverse, take}
use Rattle.desk_store.specs.StoredRows.{approved_all, left_after}
use Rattle.desk_store.proofs.pending_proposals.take_approvals.Given as goal

abbrev pub invariant-loop-head : goal.invariant-loop-head
invariant-loop-head l =
    (approved_all l.fn.revisions.items (reverse l.fn.approvals.items) ≡ take l.head-index l.head-items ++ approved_all (drop l.head-index l.head-items) (reverse l.approvals.items))
    × (left_after l.fn.revisions.items (reverse l.fn.approvals.items) ≡ left_after (drop l.head-index l.head-items) (reverse l.approvals.items))
