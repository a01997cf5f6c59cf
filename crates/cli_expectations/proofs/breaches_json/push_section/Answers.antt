use Rattle.std.proofs.Common.{◌++◌, ◌∙◌, List, ap, map}
use Rattle.std.proofs.lemmas.List.{map-append, take_all}
use Rattle.desk_who.specs.Runs.{Run as RunValue, run_value}
use Rattle.desk_who.specs.declared.runs.Run.{Run}
use Rattle.desk_impact.specs.Places.{place_of}
use Rattle.desk_expect.specs.Judging.{JudgedValue, judged_value}
use Rattle.desk_expect.specs.declared.judging.Judged.{Judged}
use Rattle.cli_expectations.specs.BreachesJson.{BreachValue, breach_value}
use Rattle.cli_expectations.proofs.Gathered.{gathers_one, one_by_value}
use Rattle.cli_expectations.proofs.breaches_json.push_section.Goals as goal

pub loop-range-preserved : goal.loop-range-preserved
loop-range-preserved c =
    let of : Run Judged → BreachValue = λ range. record { expectation = c.args.expectation.now; place = place_of c.args.section.now.place; range = run_value judged_value range } in
    gathers_one of c.as_slice-range-items.result.now c.loop-range.range-index c.range-item.result c.loop-range-test.true c.range-item.is
    (map breach_value c.args.found.now.items) (map breach_value c.loop-range.found.items) (map breach_value c.push.new.self.items) c.loop-range.invariant
    (ap (map breach_value) c.in_ok-push.ensures.items ∙ map-append breach_value c.loop-range.found.items _)

pub returns : goal.returns
returns c =
    let of : RunValue JudgedValue → BreachValue = λ range. record { expectation = c.args.expectation.now; place = place_of c.args.section.now.place; range = range } in
    let start = map breach_value c.args.found.now.items in
    c.loop-range.invariant
    ∙ ap (λ (ranges : List (Run Judged)). start ++ map (λ (range : Run Judged). of (run_value judged_value range)) ranges)
    (take_all c.loop-range.range-index c.as_slice-range-items.result.now c.loop-range-test.false ∙ c.as_slice-range-items.ensures)
    ∙ ap (λ found. start ++ found) (one_by_value (run_value judged_value) of c.args.section.now.ranges)
