use Rattle.std.proofs.Common.{[], ◌∙◌, ap, map}
use Rattle.std.specs.List.{flat_map}
use Rattle.std.proofs.lemmas.List.{take_all}
use Rattle.desk_expect.specs.Report.{broken_value}
use Rattle.desk_expect.specs.declared.report.Broken.{Broken}
use Rattle.cli_expectations.specs.BreachesJson.{breach_value, breaches_of}
use Rattle.cli_expectations.proofs.Gathered.{by_values, gathers}
use Rattle.cli_expectations.proofs.breaches_json.breaches_of.Goals as goal

pub loop-one-preserved : goal.loop-one-preserved
loop-one-preserved c =
    gathers (λ (one : Broken). breaches_of (broken_value one)) c.args.broken.now c.loop-one.one-index c.one-item.result c.loop-one-test.true c.one-item.is
    [] (map breach_value c.loop-one.found.items) (map breach_value c.push_broken.new.found.items) c.loop-one.invariant c.in_ok-push_broken.ensures

pub returns : goal.returns
returns c =
    c.loop-one.invariant ∙ ap (flat_map (λ (one : Broken). breaches_of (broken_value one))) (take_all c.loop-one.one-index c.args.broken.now c.loop-one-test.false)
    ∙ by_values broken_value breaches_of c.args.broken.now
