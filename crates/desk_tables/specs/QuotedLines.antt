-- How a table is read whose lines have words with quotes: the file systems and the custodians. (this project's own)
use Rattle.std.specs.Prelude.{ℕ, List, [], ◌∷◌, ◌++◌, Option, Result, Ok, Err, map}
use Rattle.std.specs.List.{cons_option}
use Rattle.desk_text.specs.Lines.{LogicalLine}
use Rattle.desk_text.specs.Word.{RawWord, read_words, word_value}
use Rattle.desk_text.specs.declared.word.OpenQuote.{OpenQuote}
use Rattle.desk_text.specs.Reading.{AnsweredLine, answered_value, fault_at, read_lines}
use Rattle.desk_tables.specs.Rules.{TableFault}
use Rattle.desk_tables.specs.declared.rules.TableRule.{TableRule}
use Rattle.desk_tables.specs.declared.rules.TableRule.TheVariants.{Fields}

-- the values of words; an open quote breaks the rule on fields
abbrev pub word_values : Result (List RawWord) OpenQuote → Result (List (List ℕ)) TableRule
word_values (Ok words) = Ok (map (λ word. word_value word.raw) words)
word_values (Err quote) = Err Fields

-- the values of the words of a line
abbrev pub line_values : LogicalLine → Result (List (List ℕ)) TableRule
line_values line = word_values (read_words line)

-- what each line answers, which is read with the lines before it
abbrev pub answers : {Row : Type 0} → (List LogicalLine → LogicalLine → Result (Option Row) TableRule) → List LogicalLine → List LogicalLine → List (AnsweredLine Row TableRule)
answers answer before [] = []
answers answer before (line ∷ more) = record { number = line.number; answer = answer before line } ∷ answers answer (before ++ line ∷ []) more

-- what a table of these lines answers: the rows of its lines, or its first faulty line
abbrev pub lines_table : {Row : Type 0} → (List LogicalLine → LogicalLine → Result (Option Row) TableRule) → List LogicalLine → Result (List Row) TableFault
lines_table answer lines = read_lines (answers answer [] lines)

-- these rows, and the one that a further line lists; a faulty line lists nothing
abbrev pub with_line : {Row : Type 0} → (List Row → LogicalLine → Result (Option Row) TableRule) → List Row → LogicalLine → List Row
with_line answer rows line = rows ++ cons_option (answered_value (answer rows line)) []

-- these rows, and those that further lines list
abbrev pub with_lines : {Row : Type 0} → (List Row → LogicalLine → Result (Option Row) TableRule) → List Row → List LogicalLine → List Row
with_lines answer rows [] = rows
with_lines answer rows (line ∷ more) = with_lines answer (with_line answer rows line) more

-- The faults of lines that stand after these rows: each faulty line with the first rule that it breaks, after the rows of
-- the lines before it that are not faulty.
abbrev pub faults_after : {Row : Type 0} → (List Row → LogicalLine → Result (Option Row) TableRule) → List Row → List LogicalLine → List TableFault
faults_after answer rows [] = []
faults_after answer rows (line ∷ more) = cons_option (fault_at line.number (answer rows line)) (faults_after answer (with_line answer rows line) more)
