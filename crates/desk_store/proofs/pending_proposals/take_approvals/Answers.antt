use Rattle.std.proofs.Common.{arith, get_or}
use Rattle.desk_store.proofs.Members.{default}
use Rattle.desk_store.proofs.TakenApprovals.{left_one, taken_one}
use Rattle.desk_store.proofs.pending_proposals.take_approvals.Goals as goal

pub loop-head-preserved : goal.loop-head-preserved
loop-head-preserved c =
    let items = c.loop-head.head-items in
    let i = c.loop-head.head-index in
    let head = get_or items i c.head-item.result in
    let is = default items i c.head-item.result head (omega arith) in
    let new = c.take_approval.new.head in
    let old = c.loop-head.approvals.items in
    let left = c.take_approval.new.approvals.items in
    let a = c.take_approval.ensures in (
      taken_one items i head new old left (omega arith) is a.approved a.taken _ c.loop-head.invariant.0,
      left_one items i head new old left (omega arith) is a.approved a.taken _ c.loop-head.invariant.1,
    )
