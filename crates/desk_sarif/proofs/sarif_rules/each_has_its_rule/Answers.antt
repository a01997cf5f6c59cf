-- Whatever a finding is about has its rule among those of a log: its rule or kind is in the list of those.
use Rattle.std.proofs.Common.{ℕ, zero, suc, Option, List, [], ◌∷◌, ◌++◌, arith, lit<, map, refl, subst, sym}
use Rattle.std.specs.List.{IsAmong}
use Rattle.desk_text.proofs.Variants.{is_among}
use Rattle.desk_text.specs.declared.address.Addr.{Addr}
use Rattle.desk_tables.specs.Rules as tables
use Rattle.desk_tables.specs.contracts.rules.TableRule.{the_type as table_type}
use Rattle.desk_netgroup.specs.Faults as groups
use Rattle.desk_netgroup.specs.contracts.faults.GroupRule.{the_type as group_type}
use Rattle.desk_exports.specs.Rules as lines
use Rattle.desk_exports.specs.contracts.rules.Rule.{the_type as line_type}
use Rattle.desk_policy.specs.Warning.{warning_kinds}
use Rattle.desk_policy.specs.contracts.warning.WarningKind.{the_type as kind_type}
use Rattle.desk_policy.specs.declared.site_fault.SiteRule.{SiteRule}
use Rattle.desk_policy.specs.declared.site_fault.SiteRule.TheVariants as rule
use Rattle.desk_policy.specs.declared.warning.WarningKind.{WarningKind}
use Rattle.desk_remarks.specs.Remark.{remarks}
use Rattle.desk_remarks.specs.contracts.remark.Remark.{the_type as remark_type}
use Rattle.desk_remarks.specs.declared.remark.Example.{Example}
use Rattle.desk_remarks.specs.declared.remark.Remark.{Remark}
use Rattle.desk_remarks.specs.declared.remark.Remark.TheVariants as remark
use Rattle.desk_findings.specs.declared.finding.Matter.{Matter}
use Rattle.desk_findings.specs.declared.finding.Matter.TheVariants as matter
use Rattle.desk_sarif.specs.SarifRules.{broken, fault_rules, log_rules, remarked, rule_data}
use Rattle.desk_sarif.proofs.Among.{among_left, among_map, among_right}
use Rattle.desk_sarif.proofs.sarif_rules.each_has_its_rule.Goals as goal

-- what is in one of these lists has its rule among those of all
module _ (faults : List SiteRule) (kinds : List WarningKind) (marks : List Remark) where
  abbrev all : List Matter
  all = map broken faults ++ map matter.Warning kinds ++ map remarked marks

  of_fault : (broke : SiteRule) → IsAmong faults broke → IsAmong (map rule_data all) (rule_data (broken broke))
  of_fault broke among =
      among_map rule_data all (broken broke)
      (among_left (map broken faults ++ map matter.Warning kinds) (map remarked marks) (broken broke)
      (among_left (map broken faults) (map matter.Warning kinds) (broken broke) (among_map broken faults broke among)))

  of_kind : (kind : WarningKind) → IsAmong kinds kind → IsAmong (map rule_data all) (rule_data (matter.Warning kind))
  of_kind kind among =
      among_map rule_data all (matter.Warning kind)
      (among_left (map broken faults ++ map matter.Warning kinds) (map remarked marks) (matter.Warning kind)
      (among_right (map broken faults) (map matter.Warning kinds) (matter.Warning kind) (among_map matter.Warning kinds kind among)))

  of_remark : (said : Remark) → IsAmong marks said → IsAmong (map rule_data all) (rule_data (remarked said))
  of_remark said among =
      among_map rule_data all (remarked said)
      (among_right (map broken faults ++ map matter.Warning kinds) (map remarked marks) (remarked said) (among_map remarked marks said among))

HasRule : Matter → Type 0
HasRule about = IsAmong (map rule_data log_rules) (rule_data about)

abbrev of_lines : List SiteRule
of_lines = map rule.Line lines.rules_in_order

abbrev of_tables : List SiteRule
of_tables = map rule.Table tables.rules_in_order

abbrev of_groups : List SiteRule
of_groups = map rule.Group groups.rules_in_order

among_faults : (broke : SiteRule) → IsAmong fault_rules broke
among_faults (rule.Line broke) =
    among_left of_lines (rule.Contradiction ∷ [] ++ of_tables ++ of_groups) (rule.Line broke)
    (among_map rule.Line lines.rules_in_order broke (is_among line_type tt lines.rules_in_order refl broke))
among_faults rule.Contradiction =
    among_right of_lines (rule.Contradiction ∷ [] ++ of_tables ++ of_groups) rule.Contradiction (0, (lit< tt, refl))
among_faults (rule.Table broke) =
    among_right of_lines (rule.Contradiction ∷ [] ++ of_tables ++ of_groups) (rule.Table broke)
    (among_right (rule.Contradiction ∷ []) (of_tables ++ of_groups) (rule.Table broke)
    (among_left of_tables of_groups (rule.Table broke) (among_map rule.Table tables.rules_in_order broke (is_among table_type tt tables.rules_in_order refl broke))))
among_faults (rule.Group broke) =
    among_right of_lines (rule.Contradiction ∷ [] ++ of_tables ++ of_groups) (rule.Group broke)
    (among_right (rule.Contradiction ∷ []) (of_tables ++ of_groups) (rule.Group broke)
    (among_right of_tables of_groups (rule.Group broke) (among_map rule.Group groups.rules_in_order broke (is_among group_type tt groups.rules_in_order refl broke))))

fault_has_one : (broke : SiteRule) (other : Option ℕ) → HasRule (matter.Fault broke other)
unfolding HasRule
fault_has_one broke other = of_fault fault_rules warning_kinds remarks broke (among_faults broke)

contradiction_has_one : (other : ℕ) (address : Addr) → HasRule (matter.Contradiction other address)
unfolding HasRule
contradiction_has_one other address = of_fault fault_rules warning_kinds remarks rule.Contradiction (among_faults rule.Contradiction)

kind_has_one : (kind : WarningKind) → HasRule (matter.Warning kind)
unfolding HasRule
kind_has_one kind = of_kind fault_rules warning_kinds remarks kind (is_among kind_type tt warning_kinds refl kind)

listed_has_one : (said : Remark) (example : Option Example) → IsAmong remarks said → HasRule (matter.Remark said example)
unfolding HasRule
listed_has_one said example among = of_remark fault_rules warning_kinds remarks said among

here_has_one : (example : Option Example) → HasRule (matter.Remark remark.ShadowedHere example)
unfolding HasRule
here_has_one example = of_remark fault_rules warning_kinds remarks remark.Shadowed (0, (lit< tt, refl))

-- a remark has a number of its own, or is the one that has another's
remark_has_one : (said : Remark) (example : Option Example) → IsAmong (remark.ShadowedHere ∷ remarks) said → HasRule (matter.Remark said example)
remark_has_one said example (zero, (within, is)) = subst (λ (r : Remark). HasRule (matter.Remark r example)) (sym is) (here_has_one example)
remark_has_one said example (suc i, (within, is)) = listed_has_one said example (i, (omega (arith, within), is))

has_one : (about : Matter) → HasRule about
has_one (matter.Fault broke other) = fault_has_one broke other
has_one (matter.Contradiction other address) = contradiction_has_one other address
has_one (matter.Warning kind) = kind_has_one kind
has_one (matter.Remark said example) = remark_has_one said example (is_among remark_type tt (remark.ShadowedHere ∷ remarks) refl said)

pub returns : goal.returns
unfolding HasRule
returns c = has_one
