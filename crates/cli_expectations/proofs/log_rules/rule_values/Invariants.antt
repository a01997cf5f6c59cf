-- The objects of the rules so far.
use Rattle.std.proofs.Common.{◌≡◌, map, take}
use Rattle.serde_json.specs.View.{view}
use Rattle.cli_expectations.specs.LogRules.{rule_data}
use Rattle.cli_expectations.proofs.log_rules.rule_values.Given as goal

abbrev pub invariant-loop-rule : goal.invariant-loop-rule
invariant-loop-rule l = map view l.values.items ≡ map rule_data (take l.rule-index l.rules)
