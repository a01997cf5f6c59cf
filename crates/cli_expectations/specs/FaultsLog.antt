-- The faults of a text of expectations, as a log of SARIF. (SARIF 2.1.0 of OASIS: section 3.27 has the result; what it says is this
-- project's own)
use Rattle.std.specs.Prelude.{ℕ, ◌+◌, List, [], ◌∷◌, ◌++◌, codes, length, map, slice_range, take}
use Rattle.std.specs.Str.{chars}
use Rattle.serde_json.specs.Data.{Data, member, no_members, object, string}
use Rattle.desk_text.specs.Place.{line_at}
use Rattle.desk_text.specs.declared.place.Place.{Place}
use Rattle.desk_expect.specs.declared.rules.PlacedFault.{PlacedFault}
use Rattle.desk_sarif.specs.Logs.{log_text, message_data, only, place_in, single, slice_region}
use Rattle.cli_expectations.specs.FaultPrints.{said_text, slice_text}
use Rattle.cli_expectations.specs.LogRules.{log_rules, rule_data, rule_id}
use Rattle.cli_expectations.specs.declared.log_rules.LogRule.TheVariants.{Fault}

-- the column of a slice of a line, and the one behind it, in characters from 1
abbrev pub start_column : List ℕ → Place → ℕ
start_column line place = 1 + length (chars (take place.start line))

abbrev pub end_column : List ℕ → Place → ℕ
end_column line place = start_column line place + length (chars (slice_range line place.start place.end))

-- the region of the slice
abbrev pub fault_region : List ℕ → Place → Data
fault_region line place = slice_region place.line (start_column line place) (end_column line place)

-- the message of a fault: the slice, and what is said of it
abbrev pub fault_message : List ℕ → PlacedFault → Data
fault_message line placed = message_data (slice_text line placed.place ++ said_text placed.fault.rule)

-- a fault of the file of this path, on this physical line, as a result
abbrev pub fault_result : List ℕ → List ℕ → PlacedFault → Data
fault_result path line placed = object
    (member (codes "level") (string (codes "error"))
    (member (codes "locations") (single (only (codes "physicalLocation") (place_in path (fault_region line placed.place))))
    (member (codes "message") (fault_message line placed)
    (member (codes "ruleId") (string (rule_id (Fault placed.fault.rule))) no_members))))

-- the same of a fault of a text: the line is that of its place
abbrev pub result_in : List ℕ → List ℕ → PlacedFault → Data
result_in path text placed = fault_result path (line_at text placed.place.line) placed

-- the log of these faults, in their order
abbrev pub faults_log : List ℕ → List ℕ → List PlacedFault → List ℕ
faults_log path text found = log_text (map rule_data log_rules) (map (result_in path text) found)
