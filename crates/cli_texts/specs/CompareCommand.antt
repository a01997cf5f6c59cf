-- What `compare` prints, by its words and files. (this project's own)
use Rattle.std.specs.Prelude.{◌≡◌, ◌⊎◌, ℕ, ◌==◌, Bool, true, false, List, Option, Result, codes, if◌then◌else◌}
use Rattle.std.specs.String.{string_bytes}
use Rattle.clap.specs.Words.{Row}
use Rattle.desk_tables.specs.declared.filesystems.Mount.{Mount}
use Rattle.desk_policy.specs.Policy.{Content}
use Rattle.desk_policy.specs.declared.site_fault.SiteFault.{SiteFault}
use Rattle.desk_impact.specs.ListedChanges.{AreListed, ListedPlace}
use Rattle.desk_impact.specs.Report.{IsReport}
use Rattle.desk_impact.specs.declared.report.Report.{Report}
use Rattle.desk_json.specs.Changes.{changes_data}
use Rattle.desk_server_notes.specs.NewsNote.{TellsNews}
use Rattle.desk_findings.specs.declared.check_text.WholeSources.{WholeSources}
use Rattle.cli_output.specs.declared.failure.Failure.{Failure}
use Rattle.cli_output.specs.ShownLines.{shown_lines}
use Rattle.cli_output.specs.declared.printed.Printed.{Printed}
use Rattle.cli_verdict.specs.Changes.{changes_status}
use Rattle.cli_verdict.specs.ObjectLine.{data_line}
use Rattle.cli_words.specs.Words.{After, is_set}
use Rattle.cli_sources.specs.Subject.{ReadsSubject, places}
use Rattle.cli_sources.specs.TwoQuestion.{AnswersTwo}
use Rattle.cli_sources.specs.TwoFiles.{whole_first, whole_second}
use Rattle.cli_texts.specs.FaultyTexts.{AnswersOrFault, PrintsFault}
use Rattle.cli_texts.specs.WholeTables.{Writes, policy_of}
use Rattle.cli_sources.specs.declared.two_files.TwoSources.{TwoSources}

-- what changes from a policy to another is told by a report, as it is shown; the status is 0 if nothing matters to a client
pub record TellsReport (before after : Content) (all : Bool) (status : ℕ) (text : List ℕ) : Type 0 where
  pub report : Report
  pub is_report : IsReport before after all report
  pub status_is : status ≡ (if report.mattering == 0 then 0 else 1)
  pub text_is : text ≡ shown_lines (string_bytes report.text)

-- it is told by a list, as one object; the status is 0 if nothing matters to a client
pub record TellsList (before after : Content) (all : Bool) (status : ℕ) (text : List ℕ) : Type 0 where
  pub found : List ListedPlace
  pub are_listed : AreListed before after found
  pub status_is : status ≡ changes_status found
  pub text_is : text ≡ data_line (changes_data before after all found)

-- the one, or the other, if JSON is asked
abbrev pub TellsChanges : Bool → Content → Content → Bool → ℕ → List ℕ → Type 0
TellsChanges false before after all status text = TellsReport before after all status text
TellsChanges true before after all status text = TellsList before after all status text

-- What changes from a policy to the one that an exports text is read as is told so. Beside it stands what mountd(8) grants more than
-- before.
pub record PrintsChanges (before : Content) (read : Result Content SiteFault) (all json : Bool) (printed : Printed) : Type 0 where
  pub after : Content
  pub written : Writes read after
  pub tells : TellsChanges json before after all printed.status (string_bytes printed.text)
  pub beside : TellsNews before after (string_bytes printed.note)

-- OLD is read as a policy, and what changes from it to NEW is printed, or the fault of NEW
pub record PrintsComparison (table : List Mount) (all json : Bool) (old new : WholeSources) (printed : Printed) : Type 0 where
  pub before : Content
  pub written : Writes (policy_of old table) before
  pub prints : PrintsChanges before (policy_of new table) all json printed ⊎ PrintsFault json new table printed

-- the answer by the texts of the files; a fault of a table or of OLD comes before one of NEW
abbrev pub AnswersTexts : Bool → Bool → List Mount → TwoSources → Result Printed Failure → Type 0
AnswersTexts all json table sources result =
    AnswersOrFault json (PrintsComparison table all json (whole_first sources) (whole_second sources)) (whole_first sources) table result

-- the answer of `compare` to its words
abbrev pub AnswersCompare : List Row → Option (List ℕ) → Result Printed Failure → Type 0
AnswersCompare rows known result =
    let json = is_set (codes "json") rows in
    After (ReadsSubject (places (codes "OLD") (codes "NEW") (codes "OLD or MOUNT")) rows)
    (AnswersTwo (AnswersTexts (is_set (codes "all") rows) json) json (codes "OLD") (codes "NEW") rows known) result
