-- What `check` prints of what it finds, and whether the texts pass. (this project's own)
use Rattle.std.specs.Prelude.{◌≡◌, ℕ, ◌==◌, Bool, List, length, not, if◌then◌else◌}
use Rattle.std.specs.List.{list_any}
use Rattle.std.specs.String.{string_bytes}
use Rattle.desk_findings.specs.Finding.{is_fault}
use Rattle.desk_findings.specs.declared.check_text.Gathered.{Gathered}
use Rattle.desk_findings.specs.declared.finding.Finding.{Finding}
use Rattle.desk_check.specs.FindingJson.{findings_json, heard_json}
use Rattle.desk_check.specs.FindingPrints.{findings_text, heard_text}
use Rattle.desk_check.specs.IgnoredWarnings.{heard, ignored_count}
use Rattle.desk_check.specs.declared.check_report.CheckForm.{CheckForm}
use Rattle.desk_check.specs.declared.check_report.Checked.{Checked}

-- texts pass without a fault; strictly without any finding
abbrev pub passes : Bool → List Finding → Bool
passes strict findings = if strict then length findings == 0 else not (list_any (λ finding. is_fault finding.matter) findings)

-- the findings as they are printed in this form
abbrev pub printed_findings : CheckForm → List Finding → List ℕ
printed_findings form findings = if form.json then findings_json findings else findings_text form.brief findings

-- this is told of what was found
pub record Reports (form : CheckForm) (gathered : Gathered) (checked : Checked) : Type 0 where
  pub text : string_bytes checked.text ≡ printed_findings form gathered.findings
  pub passes : checked.passes ≡ passes form.strict gathered.findings
  pub looked : checked.read_exports ≡ gathered.read_exports

-- the findings that are left as they are printed in this form, with how many are ignored
abbrev pub printed_rest : CheckForm → ℕ → List Finding → List ℕ
printed_rest form ignored findings = if form.json then heard_json ignored findings else heard_text form.brief ignored findings

-- this is told of the findings that are left: texts pass by these
pub record ReportsRest (form : CheckForm) (ignored : ℕ) (read_exports : Bool) (findings : List Finding) (checked : Checked) : Type 0 where
  pub text : string_bytes checked.text ≡ printed_rest form ignored findings
  pub passes : checked.passes ≡ passes form.strict findings
  pub looked : checked.read_exports ≡ read_exports

-- this is told of what was found, if the warnings of these numbers are ignored
abbrev pub ReportsHeard : CheckForm → List ℕ → Gathered → Checked → Type 0
ReportsHeard form numbers gathered checked = ReportsRest form (ignored_count numbers gathered.findings) gathered.read_exports (heard numbers gathered.findings) checked
