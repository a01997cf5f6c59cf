use Rattle.std.proofs.Common.{[], ◌++◌, ◌∷◌, ◌∙◌, List, ap, map}
use Rattle.std.specs.Option.{option_map}
use Rattle.std.proofs.lemmas.List.{map-append, take_all}
use Rattle.serde_json.specs.Data.{Data}
use Rattle.serde_json.specs.View.{view}
use Rattle.desk_expect.specs.Report.{broken_value}
use Rattle.desk_expect.specs.declared.report.Broken.{Broken}
use Rattle.cli_expectations.specs.BreachesLog.{broken_result}
use Rattle.cli_expectations.proofs.Gathered.{gathers_one, one_by_value}
use Rattle.cli_expectations.proofs.breaches_log.broken_results.Goals as goal

pub loop-one-preserved : goal.loop-one-preserved
loop-one-preserved c =
    let result = broken_result (option_map (λ path. path.now) c.args.exports) c.args.policy.now c.args.path.now in
    let before : List Data = map view c.loop-one.values.items in
    gathers_one (λ (one : Broken). result (broken_value one)) c.args.broken.now c.loop-one.one-index c.one-item.result c.loop-one-test.true c.one-item.is
    [] before (map view c.push.new.self.items) c.loop-one.invariant
    (ap (map view) c.in_ok-push.ensures.items ∙ map-append view c.loop-one.values.items (c.in_ok-broken_result.field-0 ∷ [])
    ∙ ap (λ (value : Data). before ++ value ∷ []) c.in_ok-broken_result.ensures)

pub returns : goal.returns
returns c =
    let result = broken_result (option_map (λ path. path.now) c.args.exports) c.args.policy.now c.args.path.now in
    c.loop-one.invariant
    ∙ ap (map (λ (one : Broken). result (broken_value one))) (take_all c.loop-one.one-index c.args.broken.now c.loop-one-test.false)
    ∙ one_by_value broken_value result c.args.broken.now
