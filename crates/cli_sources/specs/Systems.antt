-- The file systems of which a command is asked. (this project's own)
use Rattle.std.specs.Prelude.{◌≡◌, ◌⊎◌, ◌++◌, ◌∷◌, [], ℕ, Bool, ◌&&◌, nat_lt, List, Option, None, Some, Result, Ok, Err, codes, true, false}
use Rattle.std.specs.String.{string_bytes}
use Rattle.clap.specs.Words.{Row, all_of, first_of}
use Rattle.desk_tables.specs.FileSystemsText.{read_filesystems}
use Rattle.desk_tables.specs.Rules.{TableFault}
use Rattle.desk_tables.specs.declared.filesystems.Mount.{Mount}
use Rattle.desk_mounts.specs.Reading.{read_mounts}
use Rattle.desk_split.specs.SplitFault.{split_fault_line}
use Rattle.desk_split.specs.declared.split_fault.SplitFault.TheVariants.{FileSystems}
use Rattle.desk_findings.specs.declared.check_faults.Source.{Source}
use Rattle.desk_check.specs.ToldFault.{ListsSplitFault, TellsOfSplit}
use Rattle.cli_output.specs.Failure.{IsMissing}
use Rattle.cli_output.specs.declared.failure.Failure.{Failure}
use Rattle.cli_output.specs.declared.failure.Failure.TheVariants.{BesideMounts, InputTwice, Memory}
use Rattle.cli_output.specs.declared.printed.Printed.{Printed}
use Rattle.cli_files.specs.Files.{HasText, LacksText, Leaves, is_input}
use Rattle.cli_files.specs.FolderSystems.{AnswersMountsFile, LeavesBehind, SystemsPaths, systems_at}
use Rattle.cli_files.specs.MountsFile.{AnswersMounts}
use Rattle.cli_words.specs.Words.{After}
use Rattle.cli_sources.specs.MountWords.{ReadsTable}
use Rattle.cli_sources.specs.declared.subject.SiteFolder.{SiteFolder}
use Rattle.cli_sources.specs.declared.subject.Subject.{Subject}
use Rattle.cli_sources.specs.declared.subject.Subject.TheVariants.{File, Site}

-- the file of mount points is standard input, and so is another file
abbrev pub is_input_again : List ℕ → ℕ → Bool
is_input_again file others = is_input file && nat_lt 0 others

-- the file systems of a text of mount points in this file, or why there are none
pub record AnswersFile (file : List ℕ) (known : Option (List ℕ)) (result : Result (List Mount) Failure) : Type 0 where
  pub text : List ℕ
  pub has_text : HasText (codes "--mounts") file known text
  pub answers : AnswersMounts (codes "--mounts") file (read_mounts text) result

abbrev pub ReadsOneFile : Bool → List ℕ → Option (List ℕ) → Result (List Mount) Failure → Type 0
ReadsOneFile true file known result = result ≡ Err InputTwice
ReadsOneFile false file known (Ok table) = AnswersFile file known (Ok table)
ReadsOneFile false file known (Err failure) = LacksText (codes "--mounts") file known failure ⊎ AnswersFile file known (Err failure)

-- the same, beside so many other files that are standard input
abbrev pub ReadsMountsFile : List ℕ → ℕ → Option (List ℕ) → Result (List Mount) Failure → Type 0
ReadsMountsFile file others known result = ReadsOneFile (is_input_again file others) file known result

-- the failure says that MOUNT is missing
abbrev pub IsMissingMount : Result (List Mount) Failure → Type 0
IsMissingMount (Ok table) = ⊥
IsMissingMount (Err failure) = IsMissing (codes "MOUNT") failure

-- the file systems of MOUNT, or of the file of `--mounts`; one of them has to be given, and not both
abbrev pub ReadsByWords : Option (List (List ℕ)) → Option (List ℕ) → ℕ → Option (List ℕ) → Result (List Mount) Failure → Type 0
ReadsByWords (Some mounts) (Some file) others known result = result ≡ Err BesideMounts
ReadsByWords (Some mounts) None others known result = ReadsTable mounts result
ReadsByWords None (Some file) others known result = ReadsMountsFile file others known result
ReadsByWords None None others known result = IsMissingMount result

-- the fault of a text of file systems in a line; or, if JSON is asked, the list that has its finding alone, as `check --json` prints it
abbrev pub TellsSystemsFault : Bool → Source → TableFault → List ℕ → Type 0
TellsSystemsFault false source fault text = text ≡ split_fault_line (FileSystems fault) ++ 10 ∷ []
TellsSystemsFault true source fault text = ListsSplitFault source source (FileSystems fault) text

-- it is printed so, and standard error shows it as `check` does
pub record PrintsSystemsFault (json : Bool) (source : Source) (fault : TableFault) (printed : Printed) : Type 0 where
  pub status_is : printed.status ≡ 3
  pub tells : TellsSystemsFault json source fault (string_bytes printed.text)
  pub shows : TellsOfSplit source source (FileSystems fault) (string_bytes printed.note)

-- the file systems that a text of them is read as, or its fault as it is printed
abbrev pub AnswersText : Bool → Source → Result (List Mount) TableFault → Result (List Mount) Printed → Type 0
AnswersText json source (Ok table) (Ok made) = made ≡ table
AnswersText json source (Ok table) (Err printed) = ⊥
AnswersText json source (Err fault) (Ok made) = ⊥
AnswersText json source (Err fault) (Err printed) = PrintsSystemsFault json source fault printed

-- the paths of the two files of a folder that list its file systems
abbrev pub files_of : SiteFolder → SystemsPaths
files_of folder = systems_at (string_bytes folder.paths.filesystems) (string_bytes folder.mounts)

-- the file systems of the text in a folder's file filesystems
pub record AnswersListed (json : Bool) (path : List ℕ) (result : Result (List Mount) Printed) : Type 0 where
  pub source : Source
  pub at : source.path.now ≡ path
  pub plain : source.origins.now ≡ []
  pub has_text : HasText (codes "--site") path None source.text.now
  pub answers : AnswersText json source (read_filesystems source.text.now) result

-- the file systems of a folder: of its file filesystems, or of mounts; or why it has neither. Out of memory says nothing.
abbrev pub ReadsFolder : Bool → SiteFolder → Result (Result (List Mount) Printed) Failure → Type 0
ReadsFolder json folder (Ok (Ok table)) = AnswersListed json (files_of folder).filesystems (Ok table) ⊎ AnswersMountsFile (codes "--site") (files_of folder).mounts (Ok table)
ReadsFolder json folder (Ok (Err printed)) = AnswersListed json (files_of folder).filesystems (Err printed)
ReadsFolder json folder (Err failure) =
    LacksText (codes "--site") (files_of folder).filesystems None failure
    ⊎ (LacksText (codes "--site") (files_of folder).mounts None failure ⊎ (AnswersMountsFile (codes "--site") (files_of folder).mounts (Err failure) ⊎ (failure ≡ Memory)))

-- file systems that have no printed fault
abbrev pub GivesTable : (Result (List Mount) Failure → Type 0) → Result (Result (List Mount) Printed) Failure → Type 0
GivesTable Reads (Ok (Ok table)) = Reads (Ok table)
GivesTable Reads (Ok (Err printed)) = ⊥
GivesTable Reads (Err failure) = Reads (Err failure)

-- the file systems of which a command is asked, or the fault of their text as it is printed, as JSON if that is asked
abbrev pub ReadsSystems : Bool → Subject → List Row → ℕ → Option (List ℕ) → Result (Result (List Mount) Printed) Failure → Type 0
ReadsSystems json (File file) rows others known result = GivesTable (ReadsByWords (all_of (codes "MOUNT") rows) (first_of (codes "mounts") rows) others known) result
ReadsSystems json (Site folder) rows others known result = ReadsFolder json folder result

-- what that leaves of the input
abbrev pub LeavesSystems : Subject → List Row → Option (List ℕ) → Option (List ℕ) → Type 0
LeavesSystems (File file) rows known left = Leaves (first_of (codes "mounts") rows) known left
LeavesSystems (Site folder) rows known left = LeavesBehind (files_of folder) known left

-- what comes after the file systems, if they have no fault
abbrev pub ContinuesWith : (List Mount → Result Printed Failure → Type 0) → Result (List Mount) Printed → Result Printed Failure → Type 0
ContinuesWith Next (Ok table) result = Next table result
ContinuesWith Next (Err printed) result = result ≡ Ok printed

-- The file systems come first, with so many other files that are standard input; and then the rest, with what is left of the input.
pub record AfterSystems (json : Bool) (subject : Subject) (rows : List Row) (others : ℕ) (known : Option (List ℕ)) (Next : Option (List ℕ) → List Mount → Result Printed Failure → Type 0) (result : Result Printed Failure) : Type 0 where
  pub left : Option (List ℕ)
  pub leaves : LeavesSystems subject rows known left
  pub after : After (ReadsSystems json subject rows others known) (ContinuesWith (Next left)) result
