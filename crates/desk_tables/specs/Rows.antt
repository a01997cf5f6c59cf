-- How a table is read of which each line is read by itself. (this project's own)
use Rattle.std.specs.Prelude.{ℕ, List, Option, Result, map}
use Rattle.std.specs.List.{enumerate_from, filter_map}
use Rattle.std.specs.Str.Lines.{lines}
use Rattle.desk_text.specs.Reading.{AnsweredLine, fault_of, read_lines}
use Rattle.desk_tables.specs.Rules.{TableFault}
use Rattle.desk_tables.specs.declared.rules.TableRule.{TableRule}

-- a line with its number, and what it answers
abbrev pub answered_line : {Row : Type 0} → (List ℕ → Result (Option Row) TableRule) → ℕ × List ℕ → AnsweredLine Row TableRule
answered_line answer line = record { number = line.0; answer = answer line.1 }

-- each line of a text with its number, from 1, and what it answers
abbrev pub answered_lines : {Row : Type 0} → (List ℕ → Result (Option Row) TableRule) → List ℕ → List (AnsweredLine Row TableRule)
answered_lines answer text = map (answered_line answer) (enumerate_from 1 (lines text))

-- what a table answers of which each line is read by itself: the rows of its lines, or its first faulty line
abbrev pub text_table : {Row : Type 0} → (List ℕ → Result (Option Row) TableRule) → List ℕ → Result (List Row) TableFault
text_table answer text = read_lines (answered_lines answer text)

-- the faults of a text of which each line is read by itself: each faulty line with the first rule that it breaks
abbrev pub text_faults : {Row : Type 0} → (List ℕ → Result (Option Row) TableRule) → List ℕ → List TableFault
text_faults answer text = filter_map fault_of (answered_lines answer text)
