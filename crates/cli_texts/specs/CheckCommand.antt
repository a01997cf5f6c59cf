-- What `check` prints, by its words and files. (this project's own)
use Rattle.std.specs.Prelude.{◌≡◌, ◌≢◌, ◌++◌, ℕ, Bool, false, List, [], ◌∷◌, Option, Some, None, Result, Ok, Err, IsErrAnd, MatchResult, codes, if◌then◌else◌}
use Rattle.std.specs.Option.{option_map}
use Rattle.std.specs.String.{string_bytes}
use Rattle.clap.specs.Words.{Row, first_of}
use Rattle.desk_tables.specs.declared.filesystems.Mount.{Mount}
use Rattle.desk_findings.specs.CheckFolder.{GathersFolder, Listed, Mounted, Systems}
use Rattle.desk_findings.specs.CheckText.{Gathers}
use Rattle.desk_findings.specs.declared.check_faults.Source.{Source}
use Rattle.desk_findings.specs.declared.check_text.Gathered.{Gathered}
use Rattle.desk_findings.specs.declared.check_text.WholeSources.{WholeSources}
use Rattle.desk_check.specs.declared.check_report.Checked.{Checked}
use Rattle.cli_output.specs.Printed.{Prints}
use Rattle.cli_output.specs.declared.failure.Failure.{Failure}
use Rattle.cli_output.specs.declared.failure.Failure.TheVariants.{Memory}
use Rattle.cli_output.specs.declared.printed.Printed.{Printed}
use Rattle.cli_expectations.specs.ReportForm.{IsBesideSarif}
use Rattle.cli_files.specs.Files.{HasText, LacksText}
use Rattle.cli_files.specs.FolderSystems.{LeavesBehind, ReadsSystems}
use Rattle.cli_files.specs.declared.folder_systems.FolderSystems.{FolderSystems}
use Rattle.cli_files.specs.declared.folder_systems.FolderSystems.TheVariants as folder_systems
use Rattle.cli_words.specs.Words.{After, is_set}
use Rattle.cli_texts.specs.FindingsForm.{ReportsBy}
use Rattle.cli_texts.specs.IgnoredNumbers.{ReadsIgnored}
use Rattle.cli_sources.specs.Subject.{ReadsSubject, places}
use Rattle.cli_sources.specs.Systems.{AfterSystems, files_of}
use Rattle.cli_sources.specs.TableFiles.{input_count}
use Rattle.cli_sources.specs.WholeFiles.{ReadsWhole, whole_files}
use Rattle.cli_texts.specs.declared.check_site_files.CheckAsked.{CheckAsked}
use Rattle.cli_texts.specs.declared.findings_form.FindingsForm.{FindingsForm}
use Rattle.cli_sources.specs.declared.subject.SiteFolder.{SiteFolder}
use Rattle.cli_sources.specs.declared.subject.Subject.{Subject}
use Rattle.cli_sources.specs.declared.subject.Subject.TheVariants.{File, Site}

-- the form in which the words ask for the findings
abbrev pub form_of : List Row → FindingsForm
form_of rows = record {
  plain = record { brief = is_set (codes "brief") rows; strict = is_set (codes "strict") rows; json = is_set (codes "json") rows };
  sarif = is_set (codes "sarif") rows;
}

-- a report is printed; standard error says if the exports text was not looked at
pub record PrintsChecked (checked : Checked) (printed : Printed) : Type 0 where
  pub prints : Prints (if checked.passes then 0 else 3) (string_bytes checked.text) printed
  pub says : string_bytes printed.note ≡ (if checked.read_exports then [] else codes "exportdesk: the exports were not looked at, since a table has a fault" ++ 10 ∷ [])

-- the report in this form of what was found is printed, but for the warnings of some numbers, if they are ignored
pub record PrintsFindings (form : FindingsForm) (ignored : Option (List ℕ)) (gathered : Gathered) (printed : Printed) : Type 0 where
  pub checked : Checked
  pub reports : ReportsBy ignored form gathered checked
  pub prints : PrintsChecked checked printed

-- the report of something that was so found is printed; out of memory says nothing
abbrev pub AnswersFound : (Gathered → Type 0) → FindingsForm → Option (List ℕ) → Result Printed Failure → Type 0
AnswersFound IsFound form ignored result =
    MatchResult result (λ printed. (gathered : Gathered) × (IsFound gathered × PrintsFindings form ignored gathered printed)) (λ failure. failure ≡ Memory)

-- the words ask for opinions
abbrev pub asks_opinions : List Row → Bool
asks_opinions rows = is_set (codes "opinions") rows

-- the answer by the texts of the files, with opinions or without
abbrev pub AnswersTexts : Bool → FindingsForm → Option (List ℕ) → List Mount → WholeSources → Result Printed Failure → Type 0
AnswersTexts opinions form ignored table sources result = AnswersFound (Gathers opinions sources table) form ignored result

-- the answer with these file systems: the files are read after them
abbrev pub AnswersByFiles : List Row → Option (List ℕ) → List (List ℕ × Option (List ℕ)) → Option (List ℕ) → List Mount → Result Printed Failure → Type 0
AnswersByFiles rows ignored files known table result = After (ReadsWhole files known) (AnswersTexts (asks_opinions rows) (form_of rows) ignored table) result

-- the answer about a file: MOUNT or `--mounts` has to be given
abbrev pub AnswersGiven : Subject → List Row → Option (List ℕ) → List (List ℕ × Option (List ℕ)) → Option (List ℕ) → Result Printed Failure → Type 0
AnswersGiven subject rows ignored files known result = AfterSystems false subject rows (input_count files) known (λ left. AnswersByFiles rows ignored files left) result

-- the answer by the texts of a folder, with opinions or without
abbrev pub AnswersFolderTexts : CheckAsked → Systems → WholeSources → Result Printed Failure → Type 0
AnswersFolderTexts asked systems sources result = AnswersFound (GathersFolder asked.opinions asked.custodians systems sources) asked.form (option_map (λ numbers. numbers.now) asked.ignored) result

-- the file systems of a folder, with the path of their text
abbrev pub AreSystems : SiteFolder → FolderSystems → Systems → Type 0
AreSystems folder (folder_systems.Listed text) (Listed source) = (source.path.now ≡ string_bytes folder.paths.filesystems) × (source.text.now ≡ string_bytes text) × (source.origins.now ≡ [])
AreSystems folder (folder_systems.Mounted table) (Mounted made) = made ≡ table
AreSystems folder systems made = ⊥

-- the answer by the texts of a folder with these file systems
pub record AnswersSystems (asked : CheckAsked) (folder : SiteFolder) (systems : FolderSystems) (sources : WholeSources) (result : Result Printed Failure) : Type 0 where
  pub made : Systems
  pub are : AreSystems folder systems made
  pub answers : AnswersFolderTexts asked made sources result

-- the answer by the file systems of a folder: the other files are read after them
abbrev pub AnswersFolder : CheckAsked → SiteFolder → FolderSystems → List (List ℕ × Option (List ℕ)) → Option (List ℕ) → Result Printed Failure → Type 0
AnswersFolder asked folder systems files known result = After (ReadsWhole files known) (AnswersSystems asked folder systems) result

-- the source of the custodians, if they are there
abbrev pub AreCustodians : SiteFolder → Option (List ℕ) → Option Source → Type 0
AreCustodians folder None None = Unit {0}
AreCustodians folder (Some text) (Some source) = (source.path.now ≡ string_bytes folder.paths.custodians) × (source.text.now ≡ text) × (source.origins.now ≡ [])
AreCustodians folder text source = ⊥

-- the text of the custodians, if they are there, or why they have none
abbrev pub ReadsCustodians : SiteFolder → Result (Option (List ℕ)) Failure → Type 0
ReadsCustodians folder (Ok (Some text)) = HasText (codes "--site") (string_bytes folder.paths.custodians) None text
ReadsCustodians folder (Ok None) = Unit {0}
ReadsCustodians folder (Err failure) = LacksText (codes "--site") (string_bytes folder.paths.custodians) None failure

-- the answer by these file systems of a folder, with its custodians, if they are there
pub record AnswersBoth (opinions : Bool) (form : FindingsForm) (ignored : Option (List ℕ)) (folder : SiteFolder) (text : Option (List ℕ)) (files : List (List ℕ × Option (List ℕ))) (known : Option (List ℕ)) (systems : FolderSystems) (result : Result Printed Failure) : Type 0 where
  pub asked : CheckAsked
  pub opinions_are : asked.opinions ≡ opinions
  pub form_is : asked.form ≡ form
  pub ignored_are : option_map (λ numbers. numbers.now) asked.ignored ≡ ignored
  pub are : AreCustodians folder text asked.custodians
  pub answers : AnswersFolder asked folder systems files known result

-- The answer by the custodians of a folder, if they are there: its file systems are read after them, and then the other files. (None of
-- the first files is standard input, so that all of it is left.)
pub record AnswersKept (opinions : Bool) (form : FindingsForm) (ignored : Option (List ℕ)) (folder : SiteFolder) (files : List (List ℕ × Option (List ℕ))) (known : Option (List ℕ)) (text : Option (List ℕ)) (result : Result Printed Failure) : Type 0 where
  pub left : Option (List ℕ)
  pub leaves : string_bytes folder.paths.custodians ≢ codes "-" → LeavesBehind (files_of folder) known left
  pub after : After (ReadsSystems (codes "--site") (files_of folder)) (AnswersBoth opinions form ignored folder text files left) result

-- the answer by a folder
abbrev pub AnswersSite : Bool → FindingsForm → Option (List ℕ) → SiteFolder → List (List ℕ × Option (List ℕ)) → Option (List ℕ) → Result Printed Failure → Type 0
AnswersSite opinions form ignored folder files known result = After (ReadsCustodians folder) (AnswersKept opinions form ignored folder files known) result

-- the answer about what is asked of
abbrev pub AnswersSubject : List Row → Option (List ℕ) → Option (List ℕ) → Subject → Result Printed Failure → Type 0
AnswersSubject rows ignored known (File file) result = AnswersGiven (File file) rows ignored (whole_files (File file) (codes "FILE") rows) known result
AnswersSubject rows ignored known (Site folder) result =
    AnswersSite (asks_opinions rows) (form_of rows) ignored folder (whole_files (Site folder) (codes "FILE") rows) known result

-- the answer to words whose forms can be given together, if the warnings of some numbers are ignored, or none are
abbrev pub AnswersCheckBy : List Row → Option (List ℕ) → Option (List ℕ) → Result Printed Failure → Type 0
AnswersCheckBy rows known ignored result = After (ReadsSubject (places (codes "FILE") (codes "FILE") (codes "FILE")) rows) (AnswersSubject rows ignored known) result

-- the first form of findings, by its option, that is given with `--sarif` and cannot be
abbrev pub beside_sarif : List Row → Option (List ℕ)
beside_sarif rows =
    if is_set (codes "sarif") rows
    then if is_set (codes "brief") rows then Some (codes "--brief") else if is_set (codes "json") rows then Some (codes "--json") else None
    else None

-- the same: which warnings are ignored is read first
abbrev pub AnswersHeard : List Row → Option (List ℕ) → Result Printed Failure → Type 0
AnswersHeard rows known result = After (ReadsIgnored (first_of (codes "ignore") rows)) (AnswersCheckBy rows known) result

-- the same, if no form is given that cannot be given with `--sarif`
abbrev pub AnswersCheckIf : Option (List ℕ) → List Row → Option (List ℕ) → Result Printed Failure → Type 0
AnswersCheckIf (Some option) rows known result = IsErrAnd result (IsBesideSarif option)
AnswersCheckIf None rows known result = AnswersHeard rows known result

-- the answer of `check` to its words
abbrev pub AnswersCheck : List Row → Option (List ℕ) → Result Printed Failure → Type 0
AnswersCheck rows known result = AnswersCheckIf (beside_sarif rows) rows known result
