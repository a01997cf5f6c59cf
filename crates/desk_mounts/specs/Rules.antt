-- The rules of the lines of a text of mount points. (this project's own)
use Rattle.std.specs.Prelude.{ℕ, ◌+◌, List, Option, None, Some, codes}
use Rattle.desk_text.specs.Path.{path_fault_number}
use Rattle.desk_text.specs.declared.path.PathFault.{PathFault}
use Rattle.desk_text.specs.declared.path.PathFault.TheVariants.{NotAbsolute, DotComponent, TooLong, NulByte}
use Rattle.desk_mounts.specs.declared.rules.Rule.{Rule}
use Rattle.desk_mounts.specs.declared.rules.Rule.TheVariants.{OpenQuote, Words, Only, Second}

-- the number of a rule: the faults of a path come behind the others
abbrev pub rule_number : Rule → ℕ
rule_number OpenQuote = 1
rule_number Words = 2
rule_number (Only fault) = 2 + path_fault_number fault
rule_number (Second fault) = 2 + path_fault_number fault

-- the name of a fault of a path
abbrev pub path_name : PathFault → List ℕ
path_name NotAbsolute = codes "NotAbsolute"
path_name DotComponent = codes "DotComponent"
path_name TooLong = codes "TooLong"
path_name NulByte = codes "NulByte"

-- the name of a rule
abbrev pub rule_name : Rule → List ℕ
rule_name OpenQuote = codes "OpenQuote"
rule_name Words = codes "Words"
rule_name (Only fault) = path_name fault
rule_name (Second fault) = path_name fault

-- the word that breaks a rule, from 1: the third of three, or the one that is no path; a quote that does not close takes in all behind it
abbrev pub rule_word : Rule → Option ℕ
rule_word OpenQuote = None
rule_word Words = Some 3
rule_word (Only fault) = Some 1
rule_word (Second fault) = Some 2
