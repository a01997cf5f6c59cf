-- What `check` prints of what it finds in the form that is asked for. (this project's own)
use Rattle.std.specs.Prelude.{◌≡◌, ℕ, List, Option, None, Some, if◌then◌else◌}
use Rattle.std.specs.String.{string_bytes}
use Rattle.desk_findings.specs.declared.check_text.Gathered.{Gathered}
use Rattle.desk_findings.specs.declared.finding.Finding.{Finding}
use Rattle.desk_check.specs.CheckReport.{passes, printed_findings, printed_rest}
use Rattle.desk_check.specs.IgnoredWarnings.{heard, ignored_count}
use Rattle.desk_check.specs.declared.check_report.Checked.{Checked}
use Rattle.desk_sarif.specs.Sarif.{findings_sarif}
use Rattle.cli_texts.specs.declared.findings_form.FindingsForm.{FindingsForm}

-- the findings as they are printed in this form
abbrev pub printed_in : FindingsForm → List Finding → List ℕ
printed_in form findings = if form.sarif then findings_sarif None findings else printed_findings form.plain findings

-- this is told of what was found
pub record ReportsIn (form : FindingsForm) (gathered : Gathered) (checked : Checked) : Type 0 where
  pub text : string_bytes checked.text ≡ printed_in form gathered.findings
  pub passes : checked.passes ≡ passes form.plain.strict gathered.findings
  pub looked : checked.read_exports ≡ gathered.read_exports

-- the same where the warnings of these numbers are ignored: a log has all findings, and the others are left
abbrev pub printed_heard_in : FindingsForm → List ℕ → List Finding → List ℕ
printed_heard_in form numbers findings =
    if form.sarif then findings_sarif (Some numbers) findings else printed_rest form.plain (ignored_count numbers findings) (heard numbers findings)

-- this is told of what was found, if the warnings of these numbers are ignored: texts pass by the findings that are left
pub record ReportsHeardIn (form : FindingsForm) (numbers : List ℕ) (gathered : Gathered) (checked : Checked) : Type 0 where
  pub text : string_bytes checked.text ≡ printed_heard_in form numbers gathered.findings
  pub passes : checked.passes ≡ passes form.plain.strict (heard numbers gathered.findings)
  pub looked : checked.read_exports ≡ gathered.read_exports

-- this is told of what was found, if warnings of some numbers are ignored, or none are
abbrev pub ReportsBy : Option (List ℕ) → FindingsForm → Gathered → Checked → Type 0
ReportsBy None form gathered checked = ReportsIn form gathered checked
ReportsBy (Some numbers) form gathered checked = ReportsHeardIn form numbers gathered checked
