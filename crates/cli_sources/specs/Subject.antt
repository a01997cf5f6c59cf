-- What a command on texts is asked of. (this project's own)
use Rattle.std.specs.Prelude.{◌≡◌, ℕ, nat_lt, ◌&&◌, List, [], Option, None, Some, Result, Ok, Err, codes, is_some, length, not, unwrap_or, if◌then◌else◌}
use Rattle.std.specs.String.{string_bytes}
use Rattle.clap.specs.Words.{Row, all_of, first_of}
use Rattle.cli_output.specs.Failure.{IsMissing}
use Rattle.cli_output.specs.declared.failure.Failure.{Failure}
use Rattle.cli_output.specs.declared.failure.Failure.TheVariants.{BesideSite, Memory, TooManyFiles, ZfsAlone}
use Rattle.cli_files.specs.SiteFolder.{path_in, site_list, site_paths}
use Rattle.cli_files.specs.declared.site_folder.SiteFiles.{SiteFiles}
use Rattle.cli_words.specs.Words.{is_set}
use Rattle.cli_sources.specs.declared.subject.Places as names
use Rattle.cli_sources.specs.declared.subject.SiteFolder.{SiteFolder}
use Rattle.cli_sources.specs.declared.subject.Subject as code
use Rattle.cli_sources.specs.declared.subject.Subject.TheVariants.{File, Site}

-- the names of the words of a command: the first, which names a file; the last that is one word alone; and what a failure calls a word
-- that is too many with `--site`
pub record Places : Type 0 where
  pub first : List ℕ
  pub last : List ℕ
  pub beside : List ℕ

abbrev pub places : List ℕ → List ℕ → List ℕ → Places
places first last beside = record { first = first; last = last; beside = beside }

abbrev pub places_of : names.Places → Places
places_of given = places given.first.now given.last.now given.beside.now

-- the paths of the files in this folder
pub record IsSiteOf (folder : List ℕ) (site : SiteFolder) : Type 0 where
  pub paths : site_list site.paths ≡ site_paths folder
  pub mounts : string_bytes site.mounts ≡ path_in folder (codes "mounts")
  pub zfs : string_bytes site.zfs ≡ path_in folder (codes "zfs/exports")

-- the paths of a folder's files, if a folder is asked of
abbrev pub folder_of : code.Subject → Option SiteFiles
folder_of (File file) = None
folder_of (Site site) = Some site.paths

-- what is given and cannot be given with `--site`, as a failure calls it: a word at the last place, or the file of mount points
abbrev pub beside_site : Places → List Row → Option (List ℕ)
beside_site places rows =
    if is_some (first_of places.last rows) then Some places.beside
    else (if is_some (first_of (codes "mounts") rows) then Some (codes "--mounts") else None)

-- the failure names a word that cannot be given with `--site`
abbrev pub IsBesideSite : List ℕ → Failure → Type 0
IsBesideSite word (BesideSite name) = name.now ≡ word
IsBesideSite word failure = ⊥

-- the folder is asked of; or something cannot be given beside it. Out of memory says nothing.
abbrev pub ReadsSite : Option (List ℕ) → List ℕ → Result code.Subject Failure → Type 0
ReadsSite None folder (Ok (Site site)) = IsSiteOf folder site
ReadsSite None folder (Ok (File file)) = ⊥
ReadsSite None folder (Err failure) = failure ≡ Memory
ReadsSite (Some word) folder (Ok subject) = ⊥
ReadsSite (Some word) folder (Err failure) = IsBesideSite word failure

-- the file that the first word names is asked of, or the word is missing
abbrev pub ReadsFile : List ℕ → Option (List ℕ) → Result code.Subject Failure → Type 0
ReadsFile name found (Ok (File file)) = found ≡ Some file.now
ReadsFile name found (Ok (Site site)) = ⊥
ReadsFile name found (Err failure) = (found ≡ None) × IsMissing name failure

abbrev pub ReadsSubjectBy : Option (List ℕ) → Places → List Row → Result code.Subject Failure → Type 0
ReadsSubjectBy (Some folder) places rows result = ReadsSite (beside_site places rows) folder result
ReadsSubjectBy None places rows result = ReadsFile places.first (first_of places.first rows) result

-- the words of `--and`
abbrev pub and_words : List Row → List (List ℕ)
and_words rows = unwrap_or (all_of (codes "and") rows) []

-- why exports files cannot be named so: there are too many, or that of ZFS is asked for without a folder
abbrev pub fault_of_files : List Row → Option Failure
fault_of_files rows =
    if nat_lt 8 (length (and_words rows)) then Some (TooManyFiles (length (and_words rows)))
    else if is_set (codes "zfs") rows && not (is_some (first_of (codes "site") rows)) then Some ZfsAlone
    else None

abbrev pub ReadsSubjectIf : Option Failure → Places → List Row → Result code.Subject Failure → Type 0
ReadsSubjectIf (Some failure) places rows result = result ≡ Err failure
ReadsSubjectIf None places rows result = ReadsSubjectBy (first_of (codes "site") rows) places rows result

-- what a command of these words is asked of
abbrev pub ReadsSubject : Places → List Row → Result code.Subject Failure → Type 0
ReadsSubject places rows result = ReadsSubjectIf (fault_of_files rows) places rows result

-- the word of an argument: with `--site` it stands at the place of the argument before it
abbrev pub word_at : code.Subject → List ℕ → List ℕ → List Row → Option (List ℕ)
word_at (File file) before name rows = first_of name rows
word_at (Site site) before name rows = first_of before rows
