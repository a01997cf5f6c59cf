use Rattle.std.proofs.Common.{◌≡◌, ◌<◌, ◌∙◌, ◌+◌, ◌++◌, List, [], ◌∷◌, ap, get_or, length, map, subst, sym, take}
use Rattle.std.proofs.lemmas.List.{take_more}
use Rattle.desk_core.specs.Head.{newest_in}
use Rattle.desk_core.specs.declared.proposal.Proposal.{Proposal}
use Rattle.page_site.specs.WaitingProposals.{waiting_value}
use Rattle.page_site.specs.PrivateForeseenSites.{AreForeseen}
use Rattle.page_site.proofs.Waits.{one_more}
use Rattle.page_site.proofs.foreseen_sites.waiting_of.Goals as goal

pub loop-proposal-preserved : goal.loop-proposal-preserved
loop-proposal-preserved g c =
    let in_force = g.V.PolicyView.in_force in
    let newest = newest_in c.args.state.now.heads in
    let content = in_force c.args.state.now.view in
    let proposals = c.args.state.now.proposals in
    let place = c.loop-proposal.proposal-index in
    let proposal = c.proposal-item.result in
    let same = c.proposals-proposal-items.ensures in
    let within : place < length proposals = subst (λ (some : List Proposal). place < length some) same c.loop-proposal-test.true in
    let is : proposal ≡ get_or proposals place proposal = c.proposal-item.is ∙ ap (λ (some : List Proposal). get_or some place proposal) same in
    let next : take (place + 1) proposals ≡ take place proposals ++ proposal ∷ [] =
    take_more proposals place proposal within ∙ ap (λ (one : Proposal). take place proposals ++ one ∷ []) (sym is) in
    let old = map (waiting_value in_force) c.loop-proposal.waiting.items in
    let new = map (waiting_value in_force) c.push_waiting.new.waiting.items in
    subst (λ some. AreForeseen newest content some new) (sym next)
    (one_more newest content (take place proposals) proposal old new c.loop-proposal.invariant c.in_ok-push_waiting.ensures)
