-- What `init` prints by its words and files. (this project's own)
use Rattle.std.specs.Prelude.{◌≡◌, ◌⊎◌, false, IfErr, IsTrue, OnErr, OnOk, ℕ, ◌++◌, ◌∷◌, List, [], Option, Result, Ok, Err, String, codes, map, take, unwrap_or, if◌then◌else◌}
use Rattle.std.specs.BTreeMap.{BTreeMap, get_by_text}
use Rattle.std.specs.Fmt.{decimal}
use Rattle.std.specs.List.{flat_map}
use Rattle.std.specs.Str.{bytes_eq}
use Rattle.std.specs.String.{string_bytes}
use Rattle.clap.specs.Words.{Row}
use Rattle.sqlite.specs.Held.{Held, state}
use Rattle.sqlite.specs.State.{HasCleanDisk, State, Survives}
use Rattle.sqlite_trees.specs.declared.store.Store.{Ghosts}
use Rattle.desk_text.specs.Path.{path_text}
use Rattle.desk_text.specs.declared.reading.LineFault.{LineFault}
use Rattle.desk_text.specs.declared.reading.ReadError.{ReadError}
use Rattle.desk_text.specs.declared.reading.ReadError.TheVariants.{Fault, Memory as NoMemory}
use Rattle.desk_tables.specs.FileSystemsText.{read_filesystems}
use Rattle.desk_tables.specs.Rules.{TableFault}
use Rattle.desk_tables.specs.declared.filesystems.Mount.{Mount}
use Rattle.desk_exports.specs.Rules.{rule_name, rule_number}
use Rattle.desk_split.specs.Splitting.{split_text}
use Rattle.desk_exports.specs.declared.profile.Profile.TheVariants.{Two}
use Rattle.desk_exports.specs.declared.rules.Rule.{Rule}
use Rattle.desk_policy.specs.Parsing.{read_site}
use Rattle.desk_policy.specs.Policy.{Content}
use Rattle.desk_policy.specs.Site.{HaveLengthsWithin, SiteTexts, no_exports, text_of}
use Rattle.desk_policy.specs.SiteFile.{all_files}
use Rattle.desk_policy.specs.declared.site.ExportsText.{ExportsText}
use Rattle.desk_policy.specs.Warning.{kind_name}
use Rattle.desk_policy.specs.declared.site_fault.SiteFault.{SiteFault}
use Rattle.desk_policy.specs.declared.warning.Warning.{Warning}
use Rattle.desk_core.specs.declared.edit.Refusal.TheVariants as refusal
use Rattle.desk_core.specs.Head.{longest_revision}
use Rattle.desk_store.specs.Create.{JudgesSite, Makes, MayMake, RefusesToCreate, first_history, has_one}
use Rattle.desk_store.specs.Desk.{IsSiteHistory}
use Rattle.desk_store.specs.Tables.{LeavesCommit}
use Rattle.desk_store.specs.declared.error.CreateError.{CreateError}
use Rattle.desk_store.specs.declared.error.CreateError.TheVariants as create
use Rattle.desk_service.specs.declared.refused.Refused.TheVariants as refused
use Rattle.cli_output.specs.Printed.{PrintsText}
use Rattle.cli_output.specs.declared.failure.Failure.{Failure}
use Rattle.cli_output.specs.declared.failure.Failure.TheVariants.{Memory}
use Rattle.cli_output.specs.declared.printed.Printed.{Printed}
use Rattle.cli_words.specs.Words.{After, ByWord}
use Rattle.cli_files.specs.SiteFolder.{ReadsSite, path_in, site_paths}
use Rattle.cli_desk.specs.RefusalLines.{IsRefused, filed_line}
use Rattle.cli_edits.specs.declared.init_command.NotMade.{NotMade}
use Rattle.cli_edits.specs.declared.init_command.NotMade.TheVariants as not_made

-- the line of a warning, as `warning exports:/a line 2 Ipv6 fe80::1`
abbrev pub warning_line : Warning → List ℕ
warning_line warning = codes "warning " ++ warning.file ++ codes " line " ++ decimal warning.line ++ 32 ∷ kind_name warning.kind ++ 32 ∷ warning.word ++ 10 ∷ []

-- what is printed of a site that is stored: its warnings, and that it is ready
abbrev pub ready_text : List Warning → List ℕ
ready_text warnings = flat_map warning_line warnings ++ codes "ready\n"

-- the warnings of a site; one with a fault has none
abbrev pub warnings_in : Result Content SiteFault → List Warning
warnings_in (Ok policy) = policy.warnings
warnings_in (Err fault) = []

-- The text is what is printed of a site once it is stored. One with a text that is too long is refused, and its warnings are not
-- looked for.
pub record IsReadyText (site : SiteTexts) (text : List ℕ) : Type 0 where
  pub short : HaveLengthsWithin longest_revision site → text ≡ ready_text (warnings_in (read_site site))
  pub long : ¬ HaveLengthsWithin longest_revision site → text ≡ ready_text []

-- A database was made of a site: none of the four tables was there, and they now hold revision 1 of each file, which is the history
-- of a site, beside what was there; and a crash leaves just that.
pub record HasMade (old new : State) (site : SiteTexts) : Type 0 where
  pub none : has_one old.committed.schema ≡ false
  pub made : Makes (first_history site) old.committed new.committed
  pub stored : IsSiteHistory (first_history site)
  pub is_open : IsTrue new.is_open
  pub durable : LeavesCommit new

-- What making a database of a site did to what a connection shows: it is made; or it is rightly refused, and the tables are as
-- before. A crash at any moment leaves what it could before, or the one commit. If the disk returned what was not written, that is
-- said, and how the site is judged.
pub record Creates {T : Type 0} (old new : State) (site : SiteTexts) (answer : Result T CreateError) : Type 0 where
  pub judged : JudgesSite site answer
  pub made : HasCleanDisk new → OnOk answer (HasMade old new site)
  pub refused : HasCleanDisk new → IfErr answer (RefusesToCreate old.committed.schema site)
  pub unchanged : HasCleanDisk new → IsTrue new.is_open → OnErr answer (new.committed ≡ old.committed)
  pub crash : Survives old new (MayMake old site answer)

-- What storing a site by a connection came to: it is stored, and the text is the one that is printed of it; or making its database
-- was refused; or there was no memory for that text, and nothing was done.
abbrev pub Stores : {S A : Type 0} → Ghosts S → Held S → Held S → SiteTexts → Result (String A) NotMade → Type 0
Stores g old new site (Ok text) = Creates {T = Unit} (state g old) (state g new) site (Ok tt) × IsReadyText site (string_bytes text)
Stores g old new site (Err (not_made.Create error)) = Creates {T = Unit} (state g old) (state g new) site (Err error)
Stores g old new site (Err not_made.Memory) = new ≡ old
Stores g old new site (Err (not_made.File error)) = ⊥
Stores g old new site (Err (not_made.Obstacle obstacle)) = ⊥
Stores g old new site (Err (not_made.Unopened error)) = ⊥

-- a site is rightly refused; that the database cannot be opened, or that memory ran out, says nothing
abbrev pub IsRefusedFor : SiteTexts → NotMade → Type 0
IsRefusedFor site (not_made.Create error) = JudgesSite {T = Unit} site (Err error)
IsRefusedFor site other = Unit {0}

-- what storing a site in a new database came to
abbrev pub ComesTo : {A : Type 0} → SiteTexts → Result (String A) NotMade → Type 0
ComesTo site (Ok text) = JudgesSite {T = Unit} site (Ok tt) × IsReadyText site (string_bytes text)
ComesTo site (Err refused) = IsRefusedFor site refused

-- What came of making a database of a site is printed: `ready` only of one that is made, or why there is none. Of a refusal out
-- of memory says nothing.
abbrev pub PrintsCreated : SiteTexts → Result Unit CreateError → Result Printed Failure → Type 0
PrintsCreated site (Ok made) (Ok printed) = (printed.status ≡ 0) × IsReadyText site (string_bytes printed.text)
PrintsCreated site (Ok made) (Err failure) = ⊥
PrintsCreated site (Err (create.Fault fault)) result = IsRefused (refused.Edit (refusal.Fault fault)) result
PrintsCreated site (Err (create.TooLarge file)) result = PrintsText 1 (filed_line refusal.TooLarge file) result
PrintsCreated site (Err create.Schema) result = IsRefused refused.Schema result
PrintsCreated site (Err (create.Store fault)) result = IsRefused refused.Store result
PrintsCreated site (Err create.Memory) result = result ≡ Err Memory

-- A site is judged as one of which a database is made, and what came of it is printed: `ready` only of a consistent one. Which
-- database it was, no clause can name, since the connection is made and dropped inside.
pub record MakesDatabase (site : SiteTexts) (result : Result Printed Failure) : Type 0 where
  pub answer : Result Unit CreateError
  pub judged : JudgesSite site answer
  pub prints : PrintsCreated site answer result

-- the answer to a site: this cannot be opened, or a statement was refused; or that of making its database
abbrev pub AnswersInitSite : SiteTexts → Result Printed Failure → Type 0
AnswersInitSite site result = IsRefused refused.Store result ⊎ MakesDatabase site result

-- the text of a mount point among those of these mount points, empty if it is not one of them
abbrev pub part_of : List Mount → List (List ℕ) → List ℕ → List ℕ
part_of [] parts name = []
part_of (mount ∷ mounts) [] name = []
part_of (mount ∷ mounts) (part ∷ parts) name = if bytes_eq (path_text mount.path) name then part else part_of mounts parts name

-- an exports text of a new database: it is read by profile 2
abbrev pub new_exports : List ℕ → ExportsText
new_exports text = record { profile = Two; body = text }

-- the exports texts that a site has are those of these mount points
abbrev pub AreParts : {Y : Type 0} → List Mount → List (List ℕ) → BTreeMap (String Y) ExportsText → Type 0
AreParts mounts parts exports = (name : List ℕ) → unwrap_or (get_by_text exports name) no_exports ≡ new_exports (part_of mounts parts name)

-- The exports texts by how the file systems are read: those that the exports text is split into, or its fault; none if the file
-- systems have a fault. Out of memory says nothing.
abbrev pub SplitsExports : {Y : Type 0} → Result (List Mount) TableFault → List ℕ → Result (BTreeMap (String Y) ExportsText) (ReadError (LineFault Rule)) → Type 0
SplitsExports (Ok table) text (Ok exports) = (parts : List (List ℕ)) × (split_text table text ≡ Ok parts) × AreParts table parts exports
SplitsExports (Ok table) text (Err (Fault fault)) = split_text table text ≡ Err fault
SplitsExports (Err bad) text (Ok exports) = AreParts [] [] exports
SplitsExports (Err bad) text (Err (Fault fault)) = ⊥
SplitsExports read text (Err NoMemory) = Unit {0}

-- the seven texts of a site
abbrev pub seven_of : SiteTexts → List (List ℕ)
seven_of site = map (text_of site) all_files

-- a site has these texts of its seven files, and of the exports of these mount points
pub record HasTexts (seven : List (List ℕ)) (mounts : List Mount) (parts : List (List ℕ)) (site : SiteTexts) : Type 0 where
  pub files : seven_of site ≡ seven
  pub exports : (name : List ℕ) → site.exports name ≡ new_exports (part_of mounts parts name)

-- the answer to a site of these texts
abbrev pub AnswersInitOf : List (List ℕ) → List Mount → List (List ℕ) → Result Printed Failure → Type 0
AnswersInitOf seven mounts parts result = (site : SiteTexts) × HasTexts seven mounts parts site × AnswersInitSite site result

-- a site has the first seven of these texts, and these exports texts
pub record IsSiteWith {Y : Type 0} (texts : List (List ℕ)) (exports : BTreeMap (String Y) ExportsText) (site : SiteTexts) : Type 0 where
  pub seven : seven_of site ≡ take 7 texts
  pub exports_are : (name : List ℕ) → site.exports name ≡ unwrap_or (get_by_text exports name) no_exports

-- the answer to such a site
abbrev pub AnswersInitWith : {Y : Type 0} → List (List ℕ) → BTreeMap (String Y) ExportsText → Result Printed Failure → Type 0
AnswersInitWith texts exports result = (site : SiteTexts) × IsSiteWith texts exports site × AnswersInitSite site result

-- the line of a fault in the exports text, by the number and name of its rule
abbrev pub fault_line : ℕ → ℕ → List ℕ → List ℕ
fault_line line number name = codes "fault exports line " ++ decimal line ++ codes " rule " ++ decimal number ++ 32 ∷ name ++ 10 ∷ []

-- the line of the fault for which the exports text is not split
abbrev pub split_line : LineFault Rule → List ℕ
split_line fault = fault_line fault.line (rule_number fault.rule) (rule_name fault.rule)

-- the answer by how the exports text is split
abbrev pub AnswersInitSplit : List (List ℕ) → List Mount → Result (List (List ℕ)) (LineFault Rule) → Result Printed Failure → Type 0
AnswersInitSplit seven mounts (Ok parts) result = AnswersInitOf seven mounts parts result
AnswersInitSplit seven mounts (Err fault) result = PrintsText 3 (split_line fault) result

-- the answer by how the file systems are read; if they have a fault, nothing is split
abbrev pub AnswersInitBy : List (List ℕ) → List ℕ → Result (List Mount) TableFault → Result Printed Failure → Type 0
AnswersInitBy seven exports (Ok table) result = AnswersInitSplit seven table (split_text table exports) result
AnswersInitBy seven exports (Err fault) result = AnswersInitOf seven [] [] result

-- the answer by the texts of the files, in their order
abbrev pub AnswersInitTexts : List (List ℕ) → Result Printed Failure → Type 0
AnswersInitTexts (custodians ∷ filesystems ∷ hosts ∷ networks ∷ passwd ∷ group ∷ netgroup ∷ exports ∷ []) result =
    AnswersInitBy (custodians ∷ filesystems ∷ hosts ∷ networks ∷ passwd ∷ group ∷ netgroup ∷ []) exports (read_filesystems filesystems) result
AnswersInitTexts texts result = ⊥

-- the answer of `init` by the files in the folder at this path, or why one has no text; the text of its file systems may be that of its
-- mount points. Out of memory says nothing.
abbrev pub AnswersInitDir : List ℕ → Option (List ℕ) → Result Printed Failure → Type 0
AnswersInitDir dir known result = (result ≡ Err Memory) ⊎ After (ReadsSite (codes "DIR") (site_paths dir) (path_in dir (codes "mounts")) known) AnswersInitTexts result

-- the answer of `init` to its words
abbrev pub AnswersInit : List Row → Option (List ℕ) → Result Printed Failure → Type 0
AnswersInit rows known result = ByWord (codes "DB") rows (λ db. ByWord (codes "DIR") rows (λ dir. AnswersInitDir dir known)) result
