-- What is printed of the expectations of a text, by a policy and the tables of its site. (this project's own)
use Rattle.std.specs.Prelude.{◌≡◌, ◌⊎◌, ℕ, ◌++◌, ◌==◌, List, Option, Err, length, option_map, if◌then◌else◌}
use Rattle.std.specs.String.{string_bytes}
use Rattle.desk_text.specs.declared.reading.LineFault.{LineFault}
use Rattle.desk_policy.specs.Policy.{Content}
use Rattle.desk_policy.specs.declared.parsing.SiteTables.{SiteTables}
use Rattle.desk_expect.specs.FaultyLines.{AreFaultsIn}
use Rattle.desk_expect.specs.HostBits.{host_bits_text}
use Rattle.desk_expect.specs.OutsideDirectories.{outside_in, outside_text}
use Rattle.desk_expect.specs.Reading.{AreExpectationsIn, read_promises}
use Rattle.desk_expect.specs.Report.{AreBroken}
use Rattle.desk_expect.specs.ReportText.{BrokenValue, report_text}
use Rattle.desk_expect.specs.declared.expectation.Expectation.{Expectation}
use Rattle.desk_expect.specs.declared.report.TestReport.{TestReport}
use Rattle.desk_expect.specs.declared.rules.PlacedFault.{PlacedFault}
use Rattle.desk_expect.specs.declared.rules.Rule.{Rule}
use Rattle.desk_server_prints.specs.LeftOutNote.{TellsLeftOut}
use Rattle.desk_shown.specs.ShownText.{shown_text}
use Rattle.cli_output.specs.Printed.{Prints}
use Rattle.cli_output.specs.ShownLines.{shown_lines}
use Rattle.cli_output.specs.declared.printed.Printed.{Printed}
use Rattle.cli_expectations.specs.BreachesJson.{breaches_json}
use Rattle.cli_expectations.specs.BreachesLog.{broken_log}
use Rattle.cli_expectations.specs.RefusedText.{PrintsFaults}
use Rattle.cli_expectations.specs.declared.expectations_file.ExpectationsFile.{ExpectationsFile}
use Rattle.cli_expectations.specs.declared.expectations_file.ReportForm.{ReportForm}
use Rattle.cli_expectations.specs.declared.expectations_file.ReportForm.TheVariants as forms

-- A text of expectations, with the path of its file, and the form in which what is broken is printed; and the path of the exports text. (In
-- a database each file system has one of its own.)
pub record Expected : Type 0 where
  pub path : List ℕ
  pub text : List ℕ
  pub form : ReportForm
  pub exports : Option (List ℕ)

-- the same by value
abbrev pub expected_of : ExpectationsFile → Expected
expected_of file = record { path = file.path.now; text = file.text.now; form = file.form; exports = option_map (λ path. path.now) file.exports }

-- What is broken of so many expectations of a file: as text, as it is shown, with the name of the file, as JSON, or as a log.
abbrev pub broken_by : ReportForm → Option (List ℕ) → Content → List ℕ → ℕ → List BrokenValue → List ℕ
broken_by forms.Text exports content file count broken = shown_lines (report_text content (shown_text file) count broken)
broken_by forms.Json exports content file count broken = breaches_json content file broken
broken_by forms.Sarif exports content file count broken = broken_log exports content file broken

abbrev pub shown_broken : Expected → Content → ℕ → List BrokenValue → List ℕ
shown_broken expected content count broken = broken_by expected.form expected.exports content expected.path count broken

-- the report has each of these expectations that is broken, with where and for whom, as it is written, and how many there are
pub record IsReportBy (written : ℕ → List BrokenValue → List ℕ) (content : Content) (expectations : List Expectation) (report : TestReport) : Type 0 where
  pub broken : List BrokenValue
  pub are : AreBroken content expectations broken
  pub text : string_bytes report.text ≡ written (length expectations) broken
  pub count : report.broken ≡ length broken

-- the same, as it is printed
abbrev pub IsShownReport : Content → Expected → List Expectation → TestReport → Type 0
IsShownReport content expected expectations report = IsReportBy (λ count broken. shown_broken expected content count broken) content expectations report

-- The directories of these expectations are named that no file system has anything of; then the networks that the text writes with host
-- bits, each with the one that is meant; and then the lines that mountd(8) may leave out.
pub record SaysBeside (content : Content) (file text : List ℕ) (expectations : List Expectation) (note : List ℕ) : Type 0 where
  pub left_out : List ℕ
  pub tells : TellsLeftOut content left_out
  pub says : note ≡ outside_text file (outside_in content.table expectations) ++ (host_bits_text file text ++ left_out)

-- The report of these expectations of a text is printed: the status is 0 if no expectation is broken, and else 1. Standard error names the
-- directories of the lines that no file system has anything of, the networks that are written with host bits, and the lines that mountd(8)
-- may leave out.
pub record PrintsKept (content : Content) (expected : Expected) (expectations : List Expectation) (printed : Printed) : Type 0 where
  pub report : TestReport
  pub is : IsShownReport content expected expectations report
  pub prints : Prints (if report.broken == 0 then 0 else 1) (string_bytes report.text) printed
  pub beside : SaysBeside content (shown_text expected.path) expected.text expectations (string_bytes printed.note)

-- the text has expectations, with these tables, and which of them are broken is printed
pub record PrintsRead (tables : SiteTables) (content : Content) (expected : Expected) (printed : Printed) : Type 0 where
  pub expectations : List Expectation
  pub read : AreExpectationsIn tables.netgroups tables.hosts expected.text expectations
  pub prints : PrintsKept content expected expectations printed

-- The text is refused with a fault, with these tables. It is printed, and standard error shows this one and all other faults of the text, in
-- the order of its lines.
pub record PrintsUnread (tables : SiteTables) (expected : Expected) (printed : Printed) : Type 0 where
  pub fault : LineFault Rule
  pub read : read_promises tables.netgroups tables.hosts expected.text ≡ Err fault
  pub found : List PlacedFault
  pub are : AreFaultsIn tables.netgroups tables.hosts expected.text found
  pub prints : PrintsFaults expected.form expected.path expected.text fault found printed

-- what is printed of the text
abbrev pub PrintsTested : SiteTables → Content → Expected → Printed → Type 0
PrintsTested tables content expected printed = PrintsRead tables content expected printed ⊎ PrintsUnread tables expected printed
