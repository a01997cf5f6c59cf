-- The custodians of a site, and the digests of their keys. (this project's own)
use Rattle.std.specs.Prelude.{ℕ, Bool, false, not, ◌==◌, ◌&&◌, ◌||◌, nat_le, List, [], ◌∷◌, Option, Some, None, Result, Ok, Err, find, length, map, is_err, codes, slice_index_or}
use Rattle.std.specs.List.{filter_map, list_all, list_any}
use Rattle.std.specs.Option.{option_map}
use Rattle.std.specs.Result.{result_ok}
use Rattle.std.specs.Str.{bytes_eq}
use Rattle.hex.specs.Hex.{decode_sized}
use Rattle.desk_text.specs.Lines.{LogicalLine, logical_lines}
use Rattle.desk_tables.specs.Rules.{unless_rule}
use Rattle.desk_tables.specs.QuotedLines.{faults_after, line_values, lines_table, with_lines}
use Rattle.desk_tables.specs.declared.custodians.Custodian.{Custodian}
use Rattle.desk_tables.specs.Rules.{TableFault}
use Rattle.desk_tables.specs.declared.rules.TableRule.{TableRule}
use Rattle.desk_tables.specs.declared.rules.TableRule.TheVariants as rule

-- the most bytes that a custodian's name may have
abbrev pub longest_name : ℕ
longest_name = 32

-- a byte that a custodian's name may have: `a` to `z`, `0` to `9`, `-` or `_`
abbrev pub is_name_byte : ℕ → Bool
is_name_byte b = (nat_le 97 b && nat_le b 122) || (nat_le 48 b && nat_le b 57) || (b == 45) || (b == 95)

-- a custodian's name has 1 to 32 such bytes
abbrev pub is_custodian_name : List ℕ → Bool
is_custodian_name name = nat_le 1 (length name) && nat_le (length name) longest_name && list_all is_name_byte name

-- the first word of a line
abbrev pub name_word : List (List ℕ) → List ℕ
name_word words = slice_index_or words 0 []

-- the second word of a line
abbrev pub digest_word : List (List ℕ) → List ℕ
digest_word words = slice_index_or words 1 []

-- Whether a line of these words breaks a rule, if these names are listed before: it does not have two words; the first is
-- not a custodian's name; it is listed before; the second is not 64 hexadecimal digits. It breaks no other rule.
abbrev pub breaks : List (List ℕ) → List (List ℕ) → TableRule → Bool
breaks before words rule.Fields = not (length words == 2)
breaks before words rule.Name = not (is_custodian_name (name_word words))
breaks before words rule.Duplicate = list_any (bytes_eq (name_word words)) before
breaks before words rule.Digest = is_err (decode_sized (digest_word words) 32)
breaks before words _ = false

-- the rules of a line, in the order in which they are checked
abbrev pub rules : List TableRule
rules = rule.Fields ∷ rule.Name ∷ rule.Duplicate ∷ rule.Digest ∷ []

-- the custodian of a line of these words, with the 32 bytes that the digits write; there is none if they cannot be read
abbrev pub row_of : List (List ℕ) → Option Custodian
row_of words = option_map (λ digest. record { name = name_word words; digest = digest }) (result_ok (decode_sized (digest_word words) 32))

-- what a line of these words answers, if these names are listed before
abbrev pub values_answer : List (List ℕ) → Result (List (List ℕ)) TableRule → Result (Option Custodian) TableRule
values_answer before (Ok words) = unless_rule (find (breaks before words) rules) (row_of words)
values_answer before (Err rule) = Err rule

-- the name that a line lists, if each quote closes
abbrev pub name_in : Result (List (List ℕ)) TableRule → Option (List ℕ)
name_in (Ok words) = Some (name_word words)
name_in (Err rule) = None

-- the names that lines list
abbrev pub names_on : List LogicalLine → List (List ℕ)
names_on lines = filter_map (λ line. name_in (line_values line)) lines

-- what a line answers behind other lines
abbrev pub line_answer : List LogicalLine → LogicalLine → Result (Option Custodian) TableRule
line_answer before line = values_answer (names_on before) (line_values line)

-- the custodian of this name
abbrev pub custodian_named : List Custodian → List ℕ → Option Custodian
custodian_named table name = find (λ custodian. bytes_eq custodian.name name) table

-- the digest of the key of the custodian of this name
abbrev pub digest_of : List Custodian → List ℕ → Option (List ℕ)
digest_of table name = option_map (λ custodian. custodian.digest) (custodian_named table name)

-- the custodians, unless `site` is missing: then the table as a whole has a fault
abbrev pub unless_missing : List Custodian → Option Custodian → Result (List Custodian) TableFault
unless_missing table (Some site) = Ok table
unless_missing table None = Err (record { line = 0; rule = rule.Custodian })

-- if no line has a fault, `site` must be among the custodians
abbrev pub with_site : Result (List Custodian) TableFault → Result (List Custodian) TableFault
with_site (Ok table) = unless_missing table (custodian_named table (codes "site"))
with_site (Err fault) = Err fault

-- what a text of custodians answers: its custodians in order, or its first fault
abbrev pub read_custodians : List ℕ → Result (List Custodian) TableFault
read_custodians text = with_site (lines_table line_answer (logical_lines text))

-- what a line answers behind lines that list these custodians
abbrev pub row_answer : List Custodian → LogicalLine → Result (Option Custodian) TableRule
row_answer rows line = values_answer (map (λ row. row.name) rows) (line_values line)

-- the fault of a table in which this was found as `site`
abbrev pub site_faults : Option Custodian → List TableFault
site_faults (Some site) = []
site_faults None = record { line = 0; rule = rule.Custodian } ∷ []

-- the faults of lines that list these custodians; if there are none, `site` must be among them
abbrev pub or_missing_site : List Custodian → List TableFault → List TableFault
or_missing_site rows [] = site_faults (custodian_named rows (codes "site"))
or_missing_site rows (fault ∷ more) = fault ∷ more

-- the faults of lines of custodians, and then of the table as a whole
abbrev pub table_faults : List LogicalLine → List TableFault
table_faults lines = or_missing_site (with_lines row_answer [] lines) (faults_after row_answer [] lines)

-- the faults of a text of custodians
abbrev pub custodian_faults : List ℕ → List TableFault
custodian_faults text = table_faults (logical_lines text)
