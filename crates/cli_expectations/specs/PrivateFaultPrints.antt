-- What the private contracts of the faults of a text cite: the same, of the lines into which the text is cut.
use Rattle.std.specs.Prelude.{ℕ, ◌-◌, List, [], map, slice_index_or}
use Rattle.std.specs.List.{flat_map}
use Rattle.serde_json.specs.Data.{Data}
use Rattle.desk_text.specs.Place.{LiesWithin}
use Rattle.desk_text.specs.declared.reading.LineFault.{LineFault}
use Rattle.desk_expect.specs.declared.rules.PlacedFault.{PlacedFault}
use Rattle.desk_expect.specs.declared.rules.Rule.{Rule}
use Rattle.desk_sarif.specs.Logs.{log_text}
use Rattle.cli_expectations.specs.FaultPrints.{fault_line, finding_text}
use Rattle.cli_expectations.specs.FaultsLog.{fault_result}
use Rattle.cli_expectations.specs.LogRules.{log_rules, rule_data}
use Rattle.cli_expectations.specs.declared.expectations_file.ReportForm.{ReportForm}
use Rattle.cli_expectations.specs.declared.expectations_file.ReportForm.TheVariants as forms

-- the line of this number, from 1
abbrev pub line_among : List (List ℕ) → ℕ → List ℕ
line_among lines number = slice_index_or lines (number - 1) []

-- the slice at fault is text on its line
abbrev pub LiesAmong : List (List ℕ) → PlacedFault → Type 0
LiesAmong lines placed = LiesWithin (line_among lines placed.place.line) placed.place

abbrev pub finding_among : List ℕ → List (List ℕ) → PlacedFault → List ℕ
finding_among path lines placed = finding_text path (line_among lines placed.place.line) placed

abbrev pub findings_among : List ℕ → List (List ℕ) → List PlacedFault → List ℕ
findings_among path lines found = flat_map (finding_among path lines) found

-- the same as results of a log, and the log
abbrev pub result_among : List ℕ → List (List ℕ) → PlacedFault → Data
result_among path lines placed = fault_result path (line_among lines placed.place.line) placed

abbrev pub log_among : List ℕ → List (List ℕ) → List PlacedFault → List ℕ
log_among path lines found = log_text (map rule_data log_rules) (map (result_among path lines) found)

-- what is printed by the form
abbrev pub refused_among : ReportForm → List ℕ → List (List ℕ) → LineFault Rule → List PlacedFault → List ℕ
refused_among forms.Text path lines fault found = fault_line fault
refused_among forms.Json path lines fault found = fault_line fault
refused_among forms.Sarif path lines fault found = log_among path lines found
