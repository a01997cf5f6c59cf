-- The hosts file: an address, the name of the host, and its aliases. (hosts(5); the rules and their order are this project's own)
use Rattle.std.specs.Prelude.{◌≡◌, ◌↔◌, ◌&&◌, ℕ, ◌==◌, Bool, false, List, [], ◌∷◌, Option, None, Result, Ok, find, filter, is_err, length, map, if◌then◌else◌}
use Rattle.std.specs.List.{list_any}
use Rattle.std.specs.List.Sorted.{IsStrictlyIncreasing}
use Rattle.std.specs.Option.{option_map}
use Rattle.std.specs.Result.{result_ok}
use Rattle.std.specs.Str.{str_eq_ignore_ascii_case}
use Rattle.desk_text.specs.AddrSet.{is_among, sorted_set}
use Rattle.desk_text.specs.Address.{number_of, read_addr}
use Rattle.desk_text.specs.Bytes.{is_ipv6}
use Rattle.desk_tables.specs.SpacedLines.{is_long_name, words_before_comment}
use Rattle.desk_tables.specs.Rows.{text_faults, text_table}
use Rattle.desk_tables.specs.Rules.{unless_rule}
use Rattle.desk_tables.specs.Rules.{TableFault}
use Rattle.desk_tables.specs.declared.rules.TableRule.{TableRule}
use Rattle.desk_tables.specs.declared.rules.TableRule.TheVariants.{Fields, Number, Name}
use Rattle.desk_tables.specs.declared.hosts.HostRow.{HostRow}

-- Whether a line with this address and these names breaks a rule: it has no name; its address is not one; a name is over
-- 255 bytes. It breaks no other rule.
abbrev pub breaks : List ℕ → List (List ℕ) → TableRule → Bool
breaks address names Fields = length names == 0
breaks address names Number = is_err (read_addr address)
breaks address names Name = list_any is_long_name names
breaks address names _ = false

-- the rules of a line, in the order in which they are checked
abbrev pub rules : List TableRule
rules = Fields ∷ Number ∷ Name ∷ []

-- the row of a line with this address and these names; there is none if the address cannot be read
abbrev pub row_of : List ℕ → List (List ℕ) → Option HostRow
row_of address names = option_map (λ number. record { addr = record { number = number }; names = names }) (result_ok (read_addr address))

-- What the words of a line answer: nothing if there are none, or if the address is an IPv6 one; else its row, or the first
-- rule that it breaks.
abbrev pub words_answer : List (List ℕ) → Result (Option HostRow) TableRule
words_answer [] = Ok None
words_answer (address ∷ names) =
    if is_ipv6 address then Ok None
    else unless_rule (find (breaks address names) rules) (row_of address names)

-- what a line answers
abbrev pub line_answer : List ℕ → Result (Option HostRow) TableRule
line_answer line = words_answer (words_before_comment line)

-- the rows of a hosts file, or its first faulty line with the first rule that it breaks
abbrev pub read_hosts : List ℕ → Result (List HostRow) TableFault
read_hosts text = text_table line_answer text

-- the faults of a hosts file: each faulty line with the first rule that it breaks
abbrev pub host_faults : List ℕ → List TableFault
host_faults text = text_faults line_answer text

-- the row has the name, or has it as an alias, without ASCII case
abbrev pub is_host : List ℕ → HostRow → Bool
is_host name row = list_any (str_eq_ignore_ascii_case name) row.names

-- the addresses of all rows that have the name, in ascending order, without duplicates
abbrev pub addresses_of_host : List HostRow → List ℕ → List ℕ
addresses_of_host rows name = sorted_set (map (λ row. number_of row.addr) (filter (is_host name) rows))

-- these addresses ascend, without duplicates, and an address is among them exactly if some row with the name has it
pub record AreAddressesOf (rows : List HostRow) (name : List ℕ) (addresses : List ℕ) : Type 0 where
  pub ascend : IsStrictlyIncreasing addresses
  pub each : (address : ℕ) → is_among address addresses ≡ list_any (λ row. is_host name row && (number_of row.addr == address)) rows

-- a name has one list of such addresses, and it is this one
abbrev pub AddressesAreUnique : Type 0
AddressesAreUnique = (rows : List HostRow) (name addresses : List ℕ) → AreAddressesOf rows name addresses ↔ (addresses ≡ addresses_of_host rows name)
