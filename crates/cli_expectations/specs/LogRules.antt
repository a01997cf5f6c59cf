-- The rules of a log of expectations: all that a result may be about. (SARIF 2.1.0, section 3.49; the ids are this project's own)
use Rattle.std.specs.Prelude.{ℕ, List, [], ◌∷◌, ◌++◌, codes, map}
use Rattle.std.specs.Fmt.{decimal}
use Rattle.std.specs.List.{IsAmong}
use Rattle.serde_json.specs.Data.{Data, member, no_members, object, string}
use Rattle.desk_text.specs.Said.{Said, row}
use Rattle.desk_expect.specs.Rules as lines
use Rattle.desk_expect.specs.declared.rules.Rule.TheVariants.{OpenQuote}
use Rattle.desk_sarif.specs.Logs.{text_data}
use Rattle.cli_expectations.specs.declared.log_rules.LogRule.{LogRule}
use Rattle.cli_expectations.specs.declared.log_rules.LogRule.TheVariants.{Broken, Fault}

-- what is printed of a rule
abbrev pub said : LogRule → Said
said (Fault rule) = lines.said rule
said Broken = row 1 (codes "Broken") (codes "is broken: the exports allow what it forbids, or do not allow what it expects")

abbrev pub rule_number : LogRule → ℕ
rule_number rule = (said rule).number

abbrev pub rule_name : LogRule → List ℕ
rule_name rule = (said rule).name

abbrev pub rule_sentence : LogRule → List ℕ
rule_sentence rule = (said rule).sentence

-- the word for what is numbered by itself
abbrev pub group_of : LogRule → List ℕ
group_of (Fault rule) = codes "expectations"
group_of Broken = codes "broken"

-- the id of a rule, as `expectations/6`
abbrev pub rule_id : LogRule → List ℕ
rule_id rule = group_of rule ++ codes "/" ++ decimal (rule_number rule)

-- a rule as an object: its help, its id and its name
abbrev pub rule_data : LogRule → Data
rule_data rule = object
    (member (codes "help") (text_data (codes "it " ++ rule_sentence rule))
    (member (codes "id") (string (rule_id rule))
    (member (codes "name") (string (rule_name rule)) no_members)))

-- each of them: the rules of a line in the order in which they are checked, and the last
abbrev pub log_rules : List LogRule
log_rules = map Fault (OpenQuote ∷ lines.rules) ++ Broken ∷ []

-- Whatever a result is about has its rule among these.
abbrev pub EachHasItsRule : Type 0
EachHasItsRule = (about : LogRule) → IsAmong (map rule_data log_rules) (rule_data about)
