-- The ranges of the expectations so far are found.
use Rattle.std.proofs.Common.{◌≡◌, ◌++◌, [], map, take}
use Rattle.std.specs.List.{flat_map}
use Rattle.desk_expect.specs.Report.{broken_value}
use Rattle.desk_expect.specs.declared.report.Broken.{Broken}
use Rattle.cli_expectations.specs.BreachesJson.{breach_value, breaches_of}
use Rattle.cli_expectations.proofs.breaches_json.breaches_of.Given as goal

abbrev pub invariant-loop-one : goal.invariant-loop-one
invariant-loop-one l = map breach_value l.found.items ≡ [] ++ flat_map (λ (one : Broken). breaches_of (broken_value one)) (take l.one-index l.broken)
