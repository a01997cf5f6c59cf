use Rattle.std.proofs.Common.{◌∙◌, List, [], ap, arith, map, subst, sym}
use Rattle.std.proofs.lemmas.List.{map-append}
use Rattle.desk_impact.specs.Sections.{section_value}
use Rattle.page_data.specs.Lines.{AreLineReasons}
use Rattle.page_data.specs.declared.lines.LineReasons.{LineReasons}
use Rattle.page_findings.specs.Deciding.{AreDecidedFor, AreSectionsOf, deciding_value}
use Rattle.page_site.proofs.OfSite.{AreFirst, IsDecidedAt, all_decided, as_many, first_more, first_none, in_line_order, reasons_at, sections_at}
use Rattle.page_site.proofs.found_in_site.deciding_of_site.Goals as goal

pub bounds-reasons-place : goal.bounds-reasons-place
bounds-reasons-place c = (let many = as_many c.args.policy.now c.args.systems.now c.requires.systems in omega (arith, c.requires.reasons.count, c.loop-place-test.true))

pub deciding_lines-requires-clause-sections : goal.deciding_lines-requires-clause-sections
deciding_lines-requires-clause-sections c =
    subst (λ some. AreSectionsOf c.args.policy.now c.loop-place.place (map section_value some)) (sym c.as_slice-sections.ensures)
    (sections_at c.args.policy.now c.args.systems.now c.requires.systems c.loop-place.place c.index-systems-place.result c.loop-place-test.true)

pub deciding_lines-requires-clause-reasons : goal.deciding_lines-requires-clause-reasons
deciding_lines-requires-clause-reasons c =
    let many = as_many c.args.policy.now c.args.systems.now c.requires.systems in
    let own = reasons_at c.args.reasons.now c.loop-place.place c.index-reasons-place.result (omega (arith, c.requires.reasons.count, c.loop-place-test.true)) c.index-reasons-place.is in
    subst (λ (some : List LineReasons). AreLineReasons c.args.policy.now c.loop-place.place some) (sym (c.as_slice.ensures ∙ own)) (c.requires.reasons.each c.loop-place.place (omega (arith, c.loop-place-test.true)))

pub deciding_lines-requires-clause-ascending : goal.deciding_lines-requires-clause-ascending
deciding_lines-requires-clause-ascending c =
    let many = as_many c.args.policy.now c.args.systems.now c.requires.systems in
    (c.requires.sound.each c.loop-place.place (omega (arith, c.loop-place-test.true))).ascending

pub loop-place-init : goal.loop-place-init
loop-place-init c = subst (λ items. AreFirst (IsDecidedAt c.args.policy.now c.args.reasons.now) [] 0 (map deciding_value items)) (sym c.new-deciding.ensures.items)
    (first_none (IsDecidedAt c.args.policy.now c.args.reasons.now) [])

pub loop-place-preserved : goal.loop-place-preserved
loop-place-preserved c =
    let content = c.args.policy.now in
    let place = c.loop-place.place in
    let decided = c.loop-place.deciding.items in
    let one = c.in_ok-own.own in
    let many = as_many content c.args.systems.now c.requires.systems in
    let own = reasons_at c.args.reasons.now place c.index-reasons-place.result (omega (arith, c.requires.reasons.count, c.loop-place-test.true)) c.index-reasons-place.is in
    first_more (IsDecidedAt content c.args.reasons.now) [] place (map deciding_value decided) (map deciding_value c.push.new.self.items) (deciding_value one) c.loop-place.invariant
    (ap (map deciding_value) c.in_ok-push.ensures.items ∙ map-append deciding_value decided _)
    (subst (λ (some : List LineReasons). AreDecidedFor content place some (deciding_value one)) (c.as_slice.ensures ∙ own) c.in_ok-own.ensures)

pub returns-clause-decided : goal.returns-clause-decided
returns-clause-decided c =
    let many = as_many c.args.policy.now c.args.systems.now c.requires.systems in
    all_decided c.args.policy.now c.args.reasons.now c.loop-place.place (map deciding_value c.loop-place.deciding.items) c.loop-place.invariant
    (omega (arith, c.loop-place.auto.place-end, c.loop-place-test.false))

pub returns-clause-order : goal.returns-clause-order
returns-clause-order c = in_line_order c.args.policy.now c.args.reasons.now (map deciding_value c.loop-place.deciding.items) (returns-clause-decided c)
