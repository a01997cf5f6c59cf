-- The fault of one of the two texts that a split takes, as it is printed. (this project's own)
use Rattle.std.specs.Prelude.{ℕ, List, ◌∷◌, ◌++◌, codes}
use Rattle.std.specs.Fmt.{decimal}
use Rattle.desk_tables.specs.Rules.{rule_name, rule_number}
use Rattle.desk_exports.specs.Prints.{fault_line}
use Rattle.desk_split.specs.declared.split_fault.SplitFault.{SplitFault}
use Rattle.desk_split.specs.declared.split_fault.SplitFault.TheVariants.{FileSystems, Exports}

-- a fault, as `fault filesystems line 2 rule 4 Duplicate` or `fault line 3 rule 1 NotAbsolute`
abbrev pub split_fault_line : SplitFault → List ℕ
split_fault_line (FileSystems fault) = codes "fault filesystems line " ++ decimal fault.line ++ codes " rule " ++ decimal (rule_number fault.rule) ++ 32 ∷ rule_name fault.rule
split_fault_line (Exports fault) = fault_line fault
