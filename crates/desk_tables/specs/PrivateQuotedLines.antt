-- What the private contracts of lines of words with quotes cite.
use Rattle.std.specs.Prelude.{ℕ, Option, Result, Ok, Err}
use Rattle.desk_tables.specs.Rules.{TableFault}
use Rattle.desk_tables.specs.declared.rules.TableRule.{TableRule}

-- what the line with this number answers: a row, or its fault
abbrev pub at_line : {Row : Type 0} → ℕ → Result (Option Row) TableRule → Result (Option Row) TableFault
at_line number (Ok row) = Ok row
at_line number (Err rule) = Err (record { line = number; rule = rule })
