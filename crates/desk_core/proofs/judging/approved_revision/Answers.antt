use Rattle.std.proofs.Common.{◌≡◌, ℕ, IfOk, List, Some, subst}
use Rattle.desk_core.specs.Edit.{Edit, asked, revision_by}
use Rattle.desk_core.proofs.judging.approved_revision.Goals as goal

pub returns : goal.returns
returns c =
    let e : Edit = asked c.args.edit.now in
    let by_author = subst (λ (author : List ℕ). IfOk c.revision_by.result (λ head. head ≡ revision_by e author (Some c.in_ok-approver.approver))) c.as_str.ensures c.revision_by.ensures in
    subst (λ (name : List ℕ). IfOk c.revision_by.result (λ head. head ≡ revision_by e c.args.proposal.now.author (Some name))) c.in_ok-approver.ensures by_author
