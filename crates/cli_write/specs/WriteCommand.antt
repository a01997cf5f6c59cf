-- What `write` answers. (this project's own)
use Rattle.std.specs.Prelude.{◌≡◌, ◌⊎◌, ℕ, ◌++◌, Bool, List, [], ◌∷◌, Option, Some, None, Result, Ok, Err, codes, length, map, nat_lt, if◌then◌else◌}
use Rattle.std.specs.String.{string_bytes}
use Rattle.clap.specs.Words.{Row}
use Rattle.sqlite.specs.Effect.{Database}
use Rattle.desk_policy.specs.SiteFile.{all_files, file_name}
use Rattle.desk_policy.specs.View.{HasFault}
use Rattle.desk_policy.specs.declared.site_fault.SiteFault.{SiteFault}
use Rattle.desk_core.specs.Head.{Newest}
use Rattle.desk_core.specs.History.{newest_of}
use Rattle.desk_core.specs.Judging.{table_in}
use Rattle.desk_core.specs.Site.{IsConsistent, site_in}
use Rattle.desk_core.specs.declared.edit.Refusal.TheVariants.{Fault as SiteRefusal, TooLarge}
use Rattle.desk_store.specs.Desk.{History}
use Rattle.desk_store.specs.Open.{IsOurs, IsProject}
use Rattle.desk_service.specs.ReadableByInit.{by_second}
use Rattle.desk_service.specs.declared.refused.Refused.TheVariants as refused
use Rattle.cli_output.specs.Printed.{PrintsText}
use Rattle.cli_output.specs.declared.failure.Failure.{Failure}
use Rattle.cli_output.specs.declared.failure.Failure.TheVariants.{Memory}
use Rattle.cli_output.specs.declared.printed.Printed.{Printed}
use Rattle.cli_words.specs.Words.{ByWord}
use Rattle.cli_files.specs.SiteFolder.{site_paths}
use Rattle.cli_desk.specs.Desks.{HasNoCopiedDesk}
use Rattle.cli_desk.specs.RefusalLines.{IsRefused, filed_line}
use Rattle.cli_write.specs.Replacing.{IsUnwrittenIn, TellsWritten}
use Rattle.cli_write.specs.TextsBack.{texts_back}

-- the names of the eight files that `init` reads, in the order of a site
abbrev pub site_names : List (List ℕ)
site_names = map file_name all_files ++ codes "exports" ∷ []

-- the text is over the limit of what `init` reads
abbrev pub is_too_long : List ℕ → Bool
is_too_long text = nat_lt 16777216 (length text)

-- the first of these names whose text is over it
abbrev pub first_too_long : List (List ℕ) → List (List ℕ) → Option (List ℕ)
first_too_long [] texts = None
first_too_long (name ∷ names) [] = None
first_too_long (name ∷ names) (text ∷ texts) = if is_too_long text then Some name else first_too_long names texts

-- some of the files of these names are printed, in their order; or one at these paths cannot be written
abbrev pub PrintsWritten : List (List ℕ) → List (List ℕ) → Result Printed Failure → Type 0
PrintsWritten names paths (Ok printed) = (printed.status ≡ 0) × TellsWritten names (string_bytes printed.text)
PrintsWritten names paths (Err failure) = IsUnwrittenIn paths failure

-- a command refuses the text of this file, since it is too long; out of memory says nothing
abbrev pub RefusesTooLong : List ℕ → Result Printed Failure → Type 0
RefusesTooLong name result = PrintsText 1 (filed_line TooLarge name) result

-- files of these names, at these paths, get their texts, unless the text of this one is too long
abbrev pub WritesUnless : Option (List ℕ) → List (List ℕ) → List (List ℕ) → Result Printed Failure → Type 0
WritesUnless None names paths result = PrintsWritten names paths result
WritesUnless (Some name) names paths result = RefusesTooLong name result

-- Files of these names, at these paths, get these texts: some are printed, in their order. Which of them had other bytes, only the
-- system can say. Or the first whose text is too long is refused, and none is written.
abbrev pub WritesNamed : List (List ℕ) → List (List ℕ) → List (List ℕ) → Result Printed Failure → Type 0
WritesNamed names paths texts result = WritesUnless (first_too_long names texts) names paths result

-- the same of the eight files in a folder
abbrev pub WritesTexts : List ℕ → List (List ℕ) → Result Printed Failure → Type 0
WritesTexts folder texts result = WritesNamed site_names (site_paths folder) texts result

-- the site of newest revisions has a fault as `init` reads it, by profile 2, and the command refuses it
abbrev pub RefusesFault : Newest → Result Printed Failure → Type 0
RefusesFault newest result = (fault : SiteFault) × HasFault (site_in (by_second newest)) fault × IsRefused (refused.Edit (SiteRefusal fault)) result

-- Texts of newest revisions are written only if the site is consistent as `init` reads it; else the fault that it would find is
-- refused. Out of memory says nothing.
abbrev pub WritesReadable : List ℕ → Newest → List (List ℕ) → Result Printed Failure → Type 0
WritesReadable folder newest texts result =
    (IsConsistent (site_in (by_second newest)) × WritesTexts folder texts result) ⊎ (RefusesFault newest result ⊎ (result ≡ Err Memory))

-- the same of the texts that go back by newest revisions
abbrev pub WritesNewest : List ℕ → Newest → Result Printed Failure → Type 0
WritesNewest folder newest result = WritesReadable folder newest (texts_back (table_in newest) newest) result

-- the database is one of this project, and these are the newest revisions of each history that it holds
pub record AreNewestIn (db : Database) (newest : Newest) : Type 0 where
  pub ours : IsOurs db
  pub each : (history : History) → IsProject db history → newest ≡ newest_of history

-- the newest texts of a database of this project are written into a folder
abbrev pub WritesStored : List ℕ → Result Printed Failure → Type 0
WritesStored folder result = (db : Database) × (newest : Newest) × AreNewestIn db newest × WritesNewest folder newest result

-- those of the database at a path; or there is no desk on it
abbrev pub WritesDatabase : List ℕ → List ℕ → Result Printed Failure → Type 0
WritesDatabase path folder result = HasNoCopiedDesk path result ⊎ WritesStored folder result

-- The newest texts of DB are written into DIR; or one of these words is missing.
abbrev pub AnswersWrite : List Row → Result Printed Failure → Type 0
AnswersWrite rows = ByWord (codes "DB") rows (λ db. ByWord (codes "DIR") rows (λ dir. WritesDatabase db dir))
