-- What is printed of the fault of an exports text or of its tables, and what standard error says of it. (this project's own)
use Rattle.std.specs.Prelude.{◌≡◌, ◌⊎◌, ◌++◌, ℕ, Bool, true, false, List, [], ◌∷◌, Result, Ok, Err, MatchResult}
use Rattle.std.specs.String.{string_bytes}
use Rattle.desk_text.specs.declared.reading.ReadError.{ReadError}
use Rattle.desk_text.specs.declared.reading.ReadError.TheVariants as read_error
use Rattle.desk_tables.specs.declared.filesystems.Mount.{Mount}
use Rattle.desk_policy.specs.View.{IsFaultOf}
use Rattle.desk_policy.specs.declared.site_fault.SiteFault.{SiteFault}
use Rattle.desk_findings.specs.declared.check_text.WholeSources.{WholeSources}
use Rattle.desk_check.specs.ToldFault.{ListsFault, TellsOf}
use Rattle.cli_output.specs.declared.failure.Failure.{Failure}
use Rattle.cli_output.specs.declared.failure.Failure.TheVariants.{Memory}
use Rattle.cli_output.specs.declared.printed.Printed.{Printed}
use Rattle.cli_texts.specs.FaultLine.{fault_line}
use Rattle.cli_texts.specs.WholeTables.{policy_of}

-- a fault of these texts in a line, which names its exports text, if several are read as one; or, if JSON is asked, the list that has its finding alone, as `check --json` prints it
abbrev pub TellsFault : Bool → WholeSources → List Mount → SiteFault → List ℕ → Type 0
TellsFault false sources table fault text = text ≡ fault_line sources.exports.origins.now fault ++ 10 ∷ []
TellsFault true sources table fault text = ListsFault sources table fault text

-- this fault is printed so, and standard error shows it as `check` does
pub record PrintsThisFault (json : Bool) (sources : WholeSources) (table : List Mount) (fault : SiteFault) (printed : Printed) : Type 0 where
  pub status_is : printed.status ≡ 3
  pub tells : TellsFault json sources table fault (string_bytes printed.text)
  pub shows : TellsOf sources table fault (string_bytes printed.note)

-- the fault of these texts is printed: of the first faulty table, or else of the exports text
pub record PrintsFault (json : Bool) (sources : WholeSources) (table : List Mount) (printed : Printed) : Type 0 where
  pub fault : SiteFault
  pub is_fault : IsFaultOf (policy_of sources table) fault
  pub prints : PrintsThisFault json sources table fault printed

-- the answer by an exports text and its tables: what is so printed, or their fault; out of memory says nothing
abbrev pub AnswersOrFault : Bool → (Printed → Type 0) → WholeSources → List Mount → Result Printed Failure → Type 0
AnswersOrFault json PrintsAnswer sources table (Ok printed) = PrintsAnswer printed ⊎ PrintsFault json sources table printed
AnswersOrFault json PrintsAnswer sources table (Err failure) = failure ≡ Memory

-- the answer if these texts have this fault, or if memory ran out
abbrev pub AnswersError : Bool → WholeSources → List Mount → ReadError SiteFault → Result Printed Failure → Type 0
AnswersError json sources table (read_error.Fault fault) result = MatchResult result (PrintsThisFault json sources table fault) (λ failure. failure ≡ Memory)
AnswersError json sources table read_error.Memory result = result ≡ Err Memory
