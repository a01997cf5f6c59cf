-- The networks file: the name of a network, its number, and its aliases. (networks(5); the rules and their order are this
-- project's own)
use Rattle.std.specs.Prelude.{ℕ, ◌==◌, Bool, false, List, [], ◌∷◌, Option, None, Result, Ok, drop, find, is_err, length, slice_index_or}
use Rattle.std.specs.List.{list_any}
use Rattle.std.specs.Option.{option_map}
use Rattle.std.specs.Result.{result_ok}
use Rattle.std.specs.Str.{bytes_eq}
use Rattle.desk_text.specs.Address.{read_short}
use Rattle.desk_text.specs.declared.address.Addr.{Addr}
use Rattle.desk_tables.specs.SpacedLines.{is_long_name, words_before_comment}
use Rattle.desk_tables.specs.Rows.{text_faults, text_table}
use Rattle.desk_tables.specs.Rules.{unless_rule}
use Rattle.desk_tables.specs.Rules.{TableFault}
use Rattle.desk_tables.specs.declared.rules.TableRule.{TableRule}
use Rattle.desk_tables.specs.declared.rules.TableRule.TheVariants.{Fields, Number, Name}
use Rattle.desk_tables.specs.declared.networks.NetworkName.{NetworkName}

-- the number of a network comes behind its name; if nothing does, it is the empty text, which is not a number
abbrev pub number_text : List (List ℕ) → List ℕ
number_text fields = slice_index_or fields 0 []

-- the name and the aliases, which stand behind the number
abbrev pub names_with : List ℕ → List (List ℕ) → List (List ℕ)
names_with name fields = name ∷ drop 1 fields

-- Whether a line with this name and these words behind it breaks a rule: it has no number; its number cannot be read; a
-- name is over 255 bytes. It breaks no other rule.
abbrev pub breaks : List ℕ → List (List ℕ) → TableRule → Bool
breaks name fields Fields = length fields == 0
breaks name fields Number = is_err (read_short (number_text fields))
breaks name fields Name = list_any is_long_name (names_with name fields)
breaks name fields _ = false

-- the rules of a line, in the order in which they are checked
abbrev pub rules : List TableRule
rules = Fields ∷ Number ∷ Name ∷ []

-- the row of a line with this name and these words behind it; there is none if the number cannot be read
abbrev pub row_of : List ℕ → List (List ℕ) → Option NetworkName
row_of name fields = option_map (λ number. record { number = record { number = number }; names = names_with name fields }) (result_ok (read_short (number_text fields)))

-- what the words of a line answer: nothing if there are none, else its row, or the first rule that it breaks
abbrev pub words_answer : List (List ℕ) → Result (Option NetworkName) TableRule
words_answer [] = Ok None
words_answer (name ∷ fields) = unless_rule (find (breaks name fields) rules) (row_of name fields)

-- what a line answers
abbrev pub line_answer : List ℕ → Result (Option NetworkName) TableRule
line_answer line = words_answer (words_before_comment line)

-- the rows of a networks file, or its first faulty line with the first rule that it breaks
abbrev pub read_networks : List ℕ → Result (List NetworkName) TableFault
read_networks text = text_table line_answer text

-- the faults of a networks file: each faulty line with the first rule that it breaks
abbrev pub network_faults : List ℕ → List TableFault
network_faults text = text_faults line_answer text

-- the row has the name, or has it as an alias, byte by byte
abbrev pub is_network : List ℕ → NetworkName → Bool
is_network name row = list_any (bytes_eq name) row.names

-- the number of the first row that has the name
abbrev pub network_number : List NetworkName → List ℕ → Option Addr
network_number rows name = option_map (λ row. row.number) (find (is_network name) rows)
