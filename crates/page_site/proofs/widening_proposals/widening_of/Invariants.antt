-- What is told of the file systems so far.
use Rattle.std.proofs.Common.{map}
use Rattle.page_summary.specs.Proposals.{proposal_value}
use Rattle.page_site.specs.WaitingProposals.{waiting_value}
use Rattle.page_site.proofs.Widening.{AreToldFirst}
use Rattle.page_site.proofs.widening_proposals.widening_of.Given as goal

abbrev pub invariant-loop-place : goal.invariant-loop-place
invariant-loop-place g l =
    AreToldFirst (g.V.PolicyView.in_force l.site.view.now) (map (waiting_value g.V.PolicyView.in_force) l.site.waiting.now) l.place
    (map proposal_value l.rows.items)
