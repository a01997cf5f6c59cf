use Rattle.std.proofs.Common.{List, arith, map, subst, sym}
use Rattle.page_data.specs.Grants.{AreGrants}
use Rattle.page_data.specs.Lines.{AreLineReasons}
use Rattle.page_data.specs.declared.grants.LineGrants.{LineGrants}
use Rattle.page_data.specs.declared.lines.LineReasons.{LineReasons}
use Rattle.page_findings.specs.Lines.{line_value}
use Rattle.page_findings.proofs.Adding.{AreLinesOfFirst, all_first, as_many, first_more, first_none, grants_at, reasons_at}
use Rattle.page_findings.proofs.lines.lines_of_site.Goals as goal

pub bounds-reasons-place : goal.bounds-reasons-place
bounds-reasons-place c = (let many = as_many c.args.policy.now c.args.systems.now c.requires.systems in omega (arith, c.requires.reasons.count, c.loop-place-test.true))

pub push_lines-requires-clause-grants : goal.push_lines-requires-clause-grants
push_lines-requires-clause-grants c =
    subst (λ (some : List LineGrants). AreGrants c.args.policy.now c.loop-place.place some) (sym c.as_slice-grants.ensures)
    (grants_at c.args.policy.now c.args.systems.now c.requires.systems c.loop-place.place c.index-systems-place.result c.loop-place-test.true)

pub push_lines-requires-clause-reasons : goal.push_lines-requires-clause-reasons
push_lines-requires-clause-reasons c =
    let many = as_many c.args.policy.now c.args.systems.now c.requires.systems in
    subst (λ (some : List LineReasons). AreLineReasons c.args.policy.now c.loop-place.place some) (sym c.as_slice.ensures)
    (reasons_at c.args.policy.now c.args.reasons.now c.requires.reasons c.loop-place.place c.index-reasons-place.result (omega (arith, c.requires.reasons.count, c.loop-place-test.true)) c.index-reasons-place.is)

pub loop-place-init : goal.loop-place-init
loop-place-init c = subst (λ items. AreLinesOfFirst c.args.policy.now 0 (map line_value items)) (sym c.new-lines.ensures.items) (first_none c.args.policy.now)

pub loop-place-preserved : goal.loop-place-preserved
loop-place-preserved c =
    first_more c.args.policy.now c.loop-place.place (map line_value c.loop-place.lines.items) (map line_value c.push_lines.new.lines.items) c.loop-place.invariant c.in_ok-push_lines.ensures

pub returns : goal.returns
returns c =
    let many = as_many c.args.policy.now c.args.systems.now c.requires.systems in
    all_first c.args.policy.now c.loop-place.place (map line_value c.loop-place.lines.items) c.loop-place.invariant (omega (arith, c.loop-place.auto.place-end, c.loop-place-test.false))
