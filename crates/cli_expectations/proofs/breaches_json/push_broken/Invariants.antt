-- The ranges of the sections so far are added.
use Rattle.std.proofs.Common.{◌≡◌, ◌++◌, map, take}
use Rattle.std.specs.List.{flat_map}
use Rattle.desk_expect.specs.Judging.{judged_section}
use Rattle.desk_impact.specs.declared.sections.Section.{Section}
use Rattle.desk_expect.specs.declared.judging.Judged.{Judged}
use Rattle.cli_expectations.specs.BreachesJson.{breach_value, breaches_at}
use Rattle.cli_expectations.proofs.breaches_json.push_broken.Given as goal

abbrev pub invariant-loop-section : goal.invariant-loop-section
invariant-loop-section l =
    map breach_value l.found.items ≡ map breach_value l.initial.found.items ++ flat_map (λ (section : Section Judged). breaches_at l.broken.expectation.now (judged_section section)) (take l.section-index l.section-items)
