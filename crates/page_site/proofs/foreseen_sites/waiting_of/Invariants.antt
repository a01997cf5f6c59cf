-- The proposals so far are foreseen.
use Rattle.std.proofs.Common.{map, take}
use Rattle.desk_core.specs.Head.{newest_in}
use Rattle.page_site.specs.WaitingProposals.{waiting_value}
use Rattle.page_site.specs.PrivateForeseenSites.{AreForeseen}
use Rattle.page_site.proofs.foreseen_sites.waiting_of.Given as goal

abbrev pub invariant-loop-proposal : goal.invariant-loop-proposal
invariant-loop-proposal g l =
    AreForeseen (newest_in l.state.heads) (g.V.PolicyView.in_force l.state.view) (take l.proposal-index l.state.proposals)
    (map (waiting_value g.V.PolicyView.in_force) l.waiting.items)
