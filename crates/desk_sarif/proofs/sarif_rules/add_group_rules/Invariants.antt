-- The rules so far.
use Rattle.std.proofs.Common.{◌≡◌, ◌++◌, map, take}
use Rattle.desk_policy.specs.declared.site_fault.SiteRule.TheVariants.{Group}
use Rattle.desk_sarif.specs.SarifRules.{broken}
use Rattle.desk_sarif.proofs.sarif_rules.add_group_rules.Given as goal

abbrev pub invariant-loop-rule : goal.invariant-loop-rule
invariant-loop-rule l = l.rules.items ≡ l.fn.rules.items ++ map (λ rule. broken (Group rule)) (take l.rule-index l.groups)
