-- In which form it is printed what is broken. (this project's own)
use Rattle.std.specs.Prelude.{◌≡◌, ℕ, Bool, true, false, List, Result, Ok, IsErrAnd, codes}
use Rattle.cli_output.specs.declared.failure.Failure.{Failure}
use Rattle.cli_output.specs.declared.failure.Failure.TheVariants.{BesideSarif}
use Rattle.cli_expectations.specs.declared.expectations_file.ReportForm.{ReportForm}
use Rattle.cli_expectations.specs.declared.expectations_file.ReportForm.TheVariants as forms

-- the failure names an option that cannot be given with `--sarif`
abbrev pub IsBesideSarif : List ℕ → Failure → Type 0
IsBesideSarif option (BesideSarif name) = name.now ≡ option
IsBesideSarif option failure = ⊥

-- the form by whether a list and a log are asked for; both cannot be
abbrev pub GivesForm : Bool → Bool → Result ReportForm Failure → Type 0
GivesForm false false result = result ≡ Ok forms.Text
GivesForm true false result = result ≡ Ok forms.Json
GivesForm false true result = result ≡ Ok forms.Sarif
GivesForm true true result = IsErrAnd result (IsBesideSarif (codes "--json"))
