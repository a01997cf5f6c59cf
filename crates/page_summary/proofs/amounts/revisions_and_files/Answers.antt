use Rattle.std.proofs.Common.{ℕ, ◌+◌, ◌-◌, ◌∙◌, ap}
use Rattle.std.specs.Prelude.{◌^◌, min}
use Rattle.desk_core.specs.declared.head.Head.{Head}
use Rattle.page_summary.proofs.Revisions.{most_more}
use Rattle.page_summary.proofs.amounts.revisions_and_files.Goals as goal

abbrev rev_of : Head → ℕ
rev_of head = head.rev

pub loop-head-preserved : goal.loop-head-preserved
loop-head-preserved c =
    most_more rev_of c.args.heads.now c.loop-head.head-index c.head-item.result c.loop-head-test.true c.head-item.is c.loop-head.revisions c.saturating_add-revisions.result
    c.loop-head.invariant (c.saturating_add-revisions.ensures ∙ ap (λ n. min (c.loop-head.revisions + n) (2 ^ 64 - 1)) c.from.ensures)
