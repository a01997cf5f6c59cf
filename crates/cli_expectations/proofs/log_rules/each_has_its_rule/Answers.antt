-- Each stands among them at its place.
use Rattle.std.proofs.Common.{lit<, map, refl}
use Rattle.std.specs.List.{IsAmong}
use Rattle.desk_expect.specs.declared.rules.Rule.TheVariants as rules
use Rattle.cli_expectations.specs.LogRules.{log_rules, rule_data}
use Rattle.cli_expectations.specs.declared.log_rules.LogRule.{LogRule}
use Rattle.cli_expectations.specs.declared.log_rules.LogRule.TheVariants.{Broken, Fault}
use Rattle.cli_expectations.proofs.log_rules.each_has_its_rule.Goals as goal

has_one : (about : LogRule) → IsAmong (map rule_data log_rules) (rule_data about)
has_one (Fault rules.OpenQuote) = (0, (lit< tt, refl))
has_one (Fault rules.Form) = (1, (lit< tt, refl))
has_one (Fault rules.BadAction) = (2, (lit< tt, refl))
has_one (Fault rules.BadPath) = (3, (lit< tt, refl))
has_one (Fault rules.BadAddress) = (4, (lit< tt, refl))
has_one (Fault rules.UnknownName) = (5, (lit< tt, refl))
has_one (Fault rules.Nobody) = (6, (lit< tt, refl))
has_one Broken = (7, (lit< tt, refl))

pub returns : goal.returns
returns c = has_one
