use Rattle.std.proofs.Common.{◌≡◌, ◌∙◌, ap, arith, length, map, subst, sym}
use Rattle.desk_policy.specs.Policy.{Content}
use Rattle.page_summary.specs.Proposals.{proposal_value}
use Rattle.page_site.specs.WaitingProposals.{waiting_value}
use Rattle.page_site.proofs.Widening.{AreToldFirst, told_all, told_more, told_none}
use Rattle.page_site.proofs.widening_proposals.widening_of.Goals as goal

pub loop-place-init : goal.loop-place-init
loop-place-init g c =
    let content = g.V.PolicyView.in_force c.args.site.now.view.now in
    let waiting = map (waiting_value g.V.PolicyView.in_force) c.args.site.now.waiting.now in
    subst (λ items. AreToldFirst content waiting 0 (map proposal_value items)) (sym c.new-rows.ensures.items) (told_none content waiting)

pub loop-place-preserved : goal.loop-place-preserved
loop-place-preserved g c =
    told_more (g.V.PolicyView.in_force c.args.site.now.view.now) (map (waiting_value g.V.PolicyView.in_force) c.args.site.now.waiting.now) c.loop-place.place
    (map proposal_value c.loop-place.rows.items) (map proposal_value c.push_widening.new.rows.items) c.loop-place.invariant c.in_ok-push_widening.ensures

pub returns : goal.returns
returns g c =
    let content = g.V.PolicyView.in_force c.args.site.now.view.now in
    let many : length c.filesystems.result.now ≡ length content.table
    = ap length (c.filesystems.ensures ∙ ap (λ (policy : Content). policy.table) c.policy.ensures) in
    told_all content (map (waiting_value g.V.PolicyView.in_force) c.args.site.now.waiting.now) c.loop-place.place (map proposal_value c.loop-place.rows.items)
    c.loop-place.invariant (omega (arith, many, c.loop-place.auto.place-end, c.loop-place-test.false))
