use Rattle.std.proofs.Common.{List, arith, subst, sym}
use Rattle.page_data.specs.Grants.{AreGrants}
use Rattle.page_data.specs.Lines.{AreLineReasons}
use Rattle.page_data.specs.Server.{AreServerFindings}
use Rattle.page_data.specs.declared.grants.LineGrants.{LineGrants}
use Rattle.page_findings.proofs.Adding.{as_many, grants_at}
use Rattle.page_findings.proofs.Telling.{AreReasonsOfFirst, all_reasons, reasons_more, reasons_none}
use Rattle.page_findings.proofs.reasons.reasons_of_site.Goals as goal

pub reasons_of_lines-requires-clause-sound : goal.reasons_of_lines-requires-clause-sound
reasons_of_lines-requires-clause-sound c =
    let many = as_many c.args.policy.now c.args.systems.now c.requires.systems in
    c.requires.sound.each c.loop-place.place (omega (arith, c.loop-place-test.true))

pub reasons_of_lines-requires-clause-grants : goal.reasons_of_lines-requires-clause-grants
reasons_of_lines-requires-clause-grants c =
    subst (λ (some : List LineGrants). AreGrants c.args.policy.now c.loop-place.place some) (sym c.as_slice.ensures)
    (grants_at c.args.policy.now c.args.systems.now c.requires.systems c.loop-place.place c.index-systems-place.result c.loop-place-test.true)

pub reasons_of_lines-requires-clause-server : goal.reasons_of_lines-requires-clause-server
reasons_of_lines-requires-clause-server c =
    let content = c.args.policy.now in
    let place = c.loop-place.place in
    let many = as_many content c.args.systems.now c.requires.systems in
    subst (AreServerFindings content place) (sym c.index-server-place.is)
    (c.requires.server.each place c.index-server-place.result (omega (arith, c.loop-place-test.true)))

pub loop-place-init : goal.loop-place-init
loop-place-init c = subst (AreReasonsOfFirst c.args.policy.now 0) (sym c.new-reasons.ensures.items) (reasons_none c.args.policy.now)

pub loop-place-preserved : goal.loop-place-preserved
loop-place-preserved c =
    reasons_more c.args.policy.now c.loop-place.place c.loop-place.reasons.items c.push.new.self.items c.from_vec.result c.loop-place.invariant c.in_ok-push.ensures.items
    (subst (AreLineReasons c.args.policy.now c.loop-place.place) (sym c.from_vec.ensures) c.in_ok-own.ensures)

pub returns : goal.returns
returns c =
    let many = as_many c.args.policy.now c.args.systems.now c.requires.systems in
    all_reasons c.args.policy.now c.loop-place.place c.loop-place.reasons.items c.loop-place.invariant (omega (arith, c.loop-place.auto.place-end, c.loop-place-test.false))
