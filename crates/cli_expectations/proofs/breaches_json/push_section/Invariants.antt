-- The ranges so far are added.
use Rattle.std.proofs.Common.{◌≡◌, ◌++◌, map, take}
use Rattle.desk_who.specs.Runs.{run_value}
use Rattle.desk_who.specs.declared.runs.Run.{Run}
use Rattle.desk_impact.specs.Places.{place_of}
use Rattle.desk_expect.specs.Judging.{judged_value}
use Rattle.desk_expect.specs.declared.judging.Judged.{Judged}
use Rattle.cli_expectations.specs.BreachesJson.{BreachValue, breach_value}
use Rattle.cli_expectations.proofs.breaches_json.push_section.Given as goal

abbrev pub invariant-loop-range : goal.invariant-loop-range
invariant-loop-range l =
    map breach_value l.found.items
    ≡ map breach_value l.initial.found.items ++ map (λ (range : Run Judged). let value : BreachValue = record { expectation = l.expectation; place = place_of l.section.place; range = run_value judged_value range } in value) (take l.range-index l.range-items)
