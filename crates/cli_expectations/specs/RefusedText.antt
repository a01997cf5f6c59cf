-- What is printed of a text of expectations that has faults. (this project's own)
use Rattle.std.specs.Prelude.{◌≡◌, ℕ, List}
use Rattle.std.specs.String.{string_bytes}
use Rattle.desk_text.specs.declared.reading.LineFault.{LineFault}
use Rattle.desk_expect.specs.declared.rules.PlacedFault.{PlacedFault}
use Rattle.desk_expect.specs.declared.rules.Rule.{Rule}
use Rattle.cli_output.specs.Printed.{Prints}
use Rattle.cli_output.specs.declared.printed.Printed.{Printed}
use Rattle.cli_expectations.specs.FaultPrints.{fault_line, findings_text}
use Rattle.cli_expectations.specs.FaultsLog.{faults_log}
use Rattle.cli_expectations.specs.declared.expectations_file.ReportForm.{ReportForm}
use Rattle.cli_expectations.specs.declared.expectations_file.ReportForm.TheVariants as forms

-- the fault with which the text is refused, in a line; or all faults that were found, as a log
abbrev pub refused_text : ReportForm → List ℕ → List ℕ → LineFault Rule → List PlacedFault → List ℕ
refused_text forms.Text path text fault found = fault_line fault
refused_text forms.Json path text fault found = fault_line fault
refused_text forms.Sarif path text fault found = faults_log path text found

-- that is printed, and standard error shows all faults that were found
pub record PrintsFaults (form : ReportForm) (path text : List ℕ) (fault : LineFault Rule) (found : List PlacedFault) (printed : Printed) : Type 0 where
  pub prints : Prints 3 (refused_text form path text fault found) printed
  pub shows : string_bytes printed.note ≡ findings_text path text found
