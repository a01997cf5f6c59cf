-- The rules of a log of SARIF: all that a finding may be about. (SARIF 2.1.0, section 3.49; the ids are this project's own)
use Rattle.std.specs.Prelude.{ℕ, List, [], ◌∷◌, ◌++◌, None, bytes_eq, codes, map}
use Rattle.std.specs.Fmt.{decimal}
use Rattle.std.specs.List.{IsAmong, IsDistinct}
use Rattle.serde_json.specs.Data.{Data, member, no_members, object, string}
use Rattle.desk_tables.specs.Rules as tables
use Rattle.desk_netgroup.specs.Faults as groups
use Rattle.desk_exports.specs.Rules as lines
use Rattle.desk_policy.specs.SiteFault.{rule_sentence}
use Rattle.desk_policy.specs.Warning.{kind_sentence, warning_kinds}
use Rattle.desk_policy.specs.declared.site_fault.SiteRule.{SiteRule}
use Rattle.desk_policy.specs.declared.site_fault.SiteRule.TheVariants as rule
use Rattle.desk_remarks.specs.Remark.{remark_sentence, remarks, rule_of}
use Rattle.desk_remarks.specs.declared.remark.Remark.{Remark}
use Rattle.desk_findings.specs.Finding.{name_of, number_of}
use Rattle.desk_findings.specs.declared.finding.Matter.{Matter}
use Rattle.desk_findings.specs.declared.finding.Matter.TheVariants as matter
use Rattle.desk_sarif.specs.Logs.{text_data}

-- the word for what is numbered by itself: the rules of an exports file, of the netgroup file and of the other tables, and the
-- kinds of warnings
abbrev pub rule_group : SiteRule → List ℕ
rule_group (rule.Table broken) = codes "table"
rule_group (rule.Group broken) = codes "netgroup"
rule_group (rule.Line broken) = codes "exports"
rule_group rule.Contradiction = codes "exports"

abbrev pub group_of : Matter → List ℕ
group_of (matter.Fault rule other) = rule_group rule
group_of (matter.Contradiction other address) = rule_group rule.Contradiction
group_of (matter.Warning kind) = codes "warning"
group_of (matter.Remark remark example) = codes "warning"

-- the id of a rule, as `exports/5`
abbrev pub rule_id : Matter → List ℕ
rule_id about = group_of about ++ codes "/" ++ decimal (number_of about)

-- what is said of a slice, of a file or of a line
abbrev pub sentence_of : Matter → List ℕ
sentence_of (matter.Fault rule other) = rule_sentence rule
sentence_of (matter.Contradiction other address) = rule_sentence rule.Contradiction
sentence_of (matter.Warning kind) = kind_sentence kind
sentence_of (matter.Remark remark example) = remark_sentence (rule_of remark)

-- what a help has before it: what is said of a line names the line itself
abbrev pub subject_of : Matter → List ℕ
subject_of (matter.Fault rule other) = codes "it "
subject_of (matter.Contradiction other address) = codes "it "
subject_of (matter.Warning kind) = codes "it "
subject_of (matter.Remark remark example) = []

-- a rule that a fault breaks, and a kind of warning of lines: another line counts for nothing here
abbrev pub broken : SiteRule → Matter
broken rule = matter.Fault rule None

abbrev pub remarked : Remark → Matter
remarked remark = matter.Remark remark None

-- the rules of lines in the order in which they are checked, and the kinds of warnings: those of words, and those of lines
abbrev pub fault_rules : List SiteRule
fault_rules = map rule.Line lines.rules_in_order ++ rule.Contradiction ∷ [] ++ map rule.Table tables.rules_in_order ++ map rule.Group groups.rules_in_order

-- each of them
abbrev pub log_rules : List Matter
log_rules = map broken fault_rules ++ map matter.Warning warning_kinds ++ map remarked remarks

-- a rule as an object: its help, its id and its name
abbrev pub rule_data : Matter → Data
rule_data about = object
    (member (codes "help") (text_data (subject_of about ++ sentence_of about))
    (member (codes "id") (string (rule_id about))
    (member (codes "name") (string (name_of about)) no_members)))

-- Whatever a finding is about has its rule among these.
abbrev pub EachHasItsRule : Type 0
EachHasItsRule = (about : Matter) → IsAmong (map rule_data log_rules) (rule_data about)

-- No two rules have one id.
abbrev pub IdsDiffer : Type 0
IdsDiffer = IsDistinct bytes_eq (map rule_id log_rules)
