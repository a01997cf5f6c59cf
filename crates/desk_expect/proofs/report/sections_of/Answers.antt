use Rattle.std.proofs.Common.{◌∙◌, ap, map, subst}
use Rattle.std.proofs.lemmas.List.{map-append}
use Rattle.desk_expect.specs.Judging.{judged_section, judging_rule}
use Rattle.desk_expect.specs.Report.{IsTestedIn}
use Rattle.desk_expect.proofs.Verdicts.{is_rule}
use Rattle.desk_expect.proofs.Tested.{all_scopes, no_scope, one_scope}
use Rattle.desk_expect.proofs.report.sections_of.Goals as goal

pub loop-scope-init : goal.loop-scope-init
loop-scope-init c =
    no_scope c.args.index.now c.args.expectation.now (map judged_section c.new-sections.result.items) (ap (map judged_section) c.new-sections.ensures.items)

pub loop-scope-preserved : goal.loop-scope-preserved
loop-scope-preserved c =
    let expectation = c.args.expectation.now in
    one_scope c.args.index.now expectation c.as_slice-scope-items.result.now c.loop-scope.scope-index c.scope-item.result c.loop-scope-test.true c.scope-item.is
    (map judged_section c.loop-scope.sections.items) (map judged_section c.append.new.self.items) (map judged_section c.in_ok-found.found.items) c.loop-scope.invariant
    (c.in_ok-found.ensures (judging_rule expectation) (is_rule expectation c.args.index.now c.starts.result.now c.starts.ensures))
    (ap (map judged_section) c.in_ok-append.ensures.items ∙ map-append judged_section c.loop-scope.sections.items c.in_ok-found.found.items)

pub returns : goal.returns
returns c =
    let content = c.args.index.now in
    let sections = map judged_section c.loop-scope.sections.items in
    subst (λ scopes. IsTestedIn content c.args.expectation.now scopes sections) c.as_slice-scope-items.ensures
    (all_scopes content c.args.expectation.now c.as_slice-scope-items.result.now c.loop-scope.scope-index sections c.loop-scope-test.false c.loop-scope.invariant)
