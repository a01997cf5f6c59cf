-- What `check --sarif` prints of what it finds, and whether the texts pass. (this project's own)
use Rattle.std.specs.Prelude.{◌≡◌, ℕ, Bool, List, None, Some}
use Rattle.std.specs.String.{string_bytes}
use Rattle.desk_findings.specs.declared.check_text.Gathered.{Gathered}
use Rattle.desk_check.specs.CheckReport.{passes}
use Rattle.desk_check.specs.IgnoredWarnings.{heard}
use Rattle.desk_check.specs.declared.check_report.Checked.{Checked}
use Rattle.desk_sarif.specs.Sarif.{findings_sarif}

-- this is told of what was found
pub record ReportsLog (strict : Bool) (gathered : Gathered) (checked : Checked) : Type 0 where
  pub text : string_bytes checked.text ≡ findings_sarif None gathered.findings
  pub passes : checked.passes ≡ passes strict gathered.findings
  pub looked : checked.read_exports ≡ gathered.read_exports

-- this is told of what was found, if the warnings of these numbers are ignored: texts pass by the findings that are left
pub record ReportsHeardLog (strict : Bool) (numbers : List ℕ) (gathered : Gathered) (checked : Checked) : Type 0 where
  pub text : string_bytes checked.text ≡ findings_sarif (Some numbers) gathered.findings
  pub passes : checked.passes ≡ passes strict (heard numbers gathered.findings)
  pub looked : checked.read_exports ≡ gathered.read_exports
