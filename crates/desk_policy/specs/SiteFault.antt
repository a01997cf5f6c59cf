-- The faults of a site: of a file, or of the lines of an exports file against each other. (this project's own)
use Rattle.std.specs.Prelude.{ℕ, List, [], ◌∷◌, Option, None, Some, ◌++◌, codes}
use Rattle.std.specs.Fmt.{decimal}
use Rattle.desk_text.specs.Address.{addr_text, number_of}
use Rattle.desk_text.specs.Path.{path_text}
use Rattle.desk_text.specs.Said.{Said, row}
use Rattle.desk_text.specs.declared.address.Addr.{Addr}
use Rattle.desk_text.specs.declared.reading.LineFault.{LineFault}
use Rattle.desk_tables.specs.Rules as tables
use Rattle.desk_tables.specs.Rules.{TableFault}
use Rattle.desk_netgroup.specs.Faults as groups
use Rattle.desk_netgroup.specs.declared.faults.GroupFault.{GroupFault}
use Rattle.desk_exports.specs.Rules as lines
use Rattle.desk_exports.specs.declared.rules.Rule.{Rule}
use Rattle.desk_origins.specs.Origins.{line_name}
use Rattle.desk_origins.specs.declared.origins.Origin.{Origin}
use Rattle.desk_policy.specs.SiteFile.{exports_file_name}
use Rattle.desk_policy.specs.declared.contradiction.Contradiction.{Contradiction}
use Rattle.desk_policy.specs.declared.site_fault.SiteFault.{SiteFault}
use Rattle.desk_policy.specs.declared.site_fault.SiteRule.{SiteRule}
use Rattle.desk_policy.specs.declared.site_fault.SiteRule.TheVariants as rule

-- what is printed of a rule: its number among those of its file, its name, and what is said of the slice that breaks it, or of
-- the file
abbrev pub said : SiteRule → Said
said (rule.Table broken) = tables.said broken
said (rule.Group broken) = groups.said broken
said (rule.Line broken) = lines.said broken
said rule.Contradiction = row 26 (codes "Contradiction") (codes "has other terms than an earlier line")

abbrev pub rule_number : SiteRule → ℕ
rule_number rule = (said rule).number

abbrev pub rule_name : SiteRule → List ℕ
rule_name rule = (said rule).name

abbrev pub rule_sentence : SiteRule → List ℕ
rule_sentence rule = (said rule).sentence

-- the name of the exports file of a mount point
abbrev pub exports_name : List (List ℕ) → List ℕ
exports_name mount = exports_file_name (path_text mount)

-- the fault of a table's file, of the netgroup file, and of an exports file
abbrev pub table_fault : List ℕ → TableFault → SiteFault
table_fault file fault = record { file = file; line = fault.line; rule = rule.Table fault.rule; other = None; address = None }

abbrev pub group_fault : GroupFault → SiteFault
group_fault fault = record { file = codes "netgroup"; line = fault.line; rule = rule.Group fault.rule; other = fault.other; address = None }

abbrev pub line_fault : List ℕ → LineFault Rule → SiteFault
line_fault file fault = record { file = file; line = fault.line; rule = rule.Line fault.rule; other = None; address = None }

-- the fault of a contradiction in an exports file: the later line, and with it the earlier one and the address
abbrev pub contradiction_fault : List ℕ → Contradiction → SiteFault
contradiction_fault file found = record { file = file; line = found.line; rule = rule.Contradiction; other = Some found.other; address = Some found.address }

-- the earlier line of a fault, and its address, each behind a word for it; nothing if there is none
abbrev pub other_text : List Origin → Option ℕ → List ℕ
other_text origins None = []
other_text origins (Some line) = codes " line " ++ line_name origins line

abbrev pub address_text : Option Addr → List ℕ
address_text None = []
address_text (Some address) = codes " address " ++ addr_text (number_of address)

-- where a fault is in its file, or in the texts that are read as one, as `line 2 rule 26 Contradiction line 1 address 10.0.0.5`
abbrev pub place_text : List Origin → SiteFault → List ℕ
place_text origins fault =
    codes "line " ++ line_name origins fault.line ++ codes " rule " ++ decimal (rule_number fault.rule)
    ++ 32 ∷ rule_name fault.rule ++ other_text origins fault.other ++ address_text fault.address

-- a fault, as `fault netgroup line 3 rule 3 Duplicate line 1`
abbrev pub fault_line : SiteFault → List ℕ
fault_line fault = codes "fault " ++ fault.file ++ 32 ∷ place_text [] fault
