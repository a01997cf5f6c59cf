-- Faults of an exports text and of the tables with which it is read, as they are printed. (this project's own)
use Rattle.std.specs.Prelude.{ℕ, List, ◌++◌, codes}
use Rattle.desk_origins.specs.declared.origins.Origin.{Origin}
use Rattle.desk_policy.specs.SiteFault.{place_text}
use Rattle.desk_policy.specs.SiteFault as site
use Rattle.desk_policy.specs.declared.site_fault.SiteFault.{SiteFault}
use Rattle.desk_policy.specs.declared.site_fault.SiteRule.{SiteRule}
use Rattle.desk_policy.specs.declared.site_fault.SiteRule.TheVariants as rule

-- A fault by what is broken: one of a table has the table's name, one of the exports text has none.
abbrev pub fault_line_by : SiteRule → List Origin → SiteFault → List ℕ
fault_line_by (rule.Table broken) origins fault = site.fault_line fault
fault_line_by (rule.Group broken) origins fault = site.fault_line fault
fault_line_by (rule.Line broken) origins fault = codes "fault " ++ place_text origins fault
fault_line_by rule.Contradiction origins fault = codes "fault " ++ place_text origins fault

-- A fault, as `fault line 3 rule 14 NetAndHost`, or `fault line 2 rule 26 Contradiction line 1 address 10.0.0.5`; of a
-- table as `fault hosts line 3 rule 2 Number`.
abbrev pub fault_line : List Origin → SiteFault → List ℕ
fault_line origins fault = fault_line_by fault.rule origins fault
