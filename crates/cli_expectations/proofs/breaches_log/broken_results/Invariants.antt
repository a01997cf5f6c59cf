-- The results of those so far.
use Rattle.std.proofs.Common.{◌≡◌, map, take}
use Rattle.std.specs.Option.{option_map}
use Rattle.serde_json.specs.View.{view}
use Rattle.desk_expect.specs.Report.{broken_value}
use Rattle.desk_expect.specs.declared.report.Broken.{Broken}
use Rattle.cli_expectations.specs.BreachesLog.{broken_result}
use Rattle.cli_expectations.proofs.breaches_log.broken_results.Given as goal

abbrev pub invariant-loop-one : goal.invariant-loop-one
invariant-loop-one l =
    map view l.values.items ≡ map (λ (one : Broken). broken_result (option_map (λ path. path.now) l.exports) l.policy l.path (broken_value one)) (take l.one-index l.broken)
