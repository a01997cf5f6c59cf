use Rattle.std.proofs.Common.{◌++◌, ◌∙◌, ap, map}
use Rattle.std.specs.List.{flat_map}
use Rattle.std.proofs.lemmas.List.{take_all}
use Rattle.desk_expect.specs.Judging.{judged_section}
use Rattle.desk_impact.specs.declared.sections.Section.{Section}
use Rattle.desk_expect.specs.declared.judging.Judged.{Judged}
use Rattle.cli_expectations.specs.BreachesJson.{breach_value, breaches_at}
use Rattle.cli_expectations.proofs.Gathered.{by_values, gathers}
use Rattle.cli_expectations.proofs.breaches_json.push_broken.Goals as goal

pub loop-section-preserved : goal.loop-section-preserved
loop-section-preserved c =
    gathers (λ (section : Section Judged). breaches_at c.args.broken.now.expectation.now (judged_section section)) c.as_slice-section-items.result.now c.loop-section.section-index c.section-item.result c.loop-section-test.true c.section-item.is
    (map breach_value c.args.found.now.items) (map breach_value c.loop-section.found.items) (map breach_value c.push_section.new.found.items) c.loop-section.invariant c.in_ok-push_section.ensures

pub returns : goal.returns
returns c =
    let parts = breaches_at c.args.broken.now.expectation.now in
    let start = map breach_value c.args.found.now.items in
    c.loop-section.invariant
    ∙ ap (λ sections. start ++ flat_map (λ (section : Section Judged). parts (judged_section section)) sections)
    (take_all c.loop-section.section-index c.as_slice-section-items.result.now c.loop-section-test.false ∙ c.as_slice-section-items.ensures)
    ∙ ap (λ found. start ++ found) (by_values judged_section parts c.args.broken.now.sections)
