-- The file systems of a folder. (this project's own)
use Rattle.std.specs.Prelude.{◌≡◌, ◌≢◌, ◌⊎◌, ◌<◌, ◌≤◌, ℕ, List, Option, None, Some, Result, Ok, Err, codes, length}
use Rattle.std.specs.String.{string_bytes}
use Rattle.std.specs.declared.io.ErrorKind.{ErrorKind}
use Rattle.std.specs.declared.io.ErrorKind.TheVariants.{NotFound}
use Rattle.desk_tables.specs.declared.filesystems.Mount.{Mount}
use Rattle.desk_mounts.specs.Reading.{read_mounts}
use Rattle.desk_mounts.specs.SiteLines.{site_text}
use Rattle.cli_output.specs.Failure.{IsFileFailure}
use Rattle.cli_output.specs.declared.failure.Failure.{Failure}
use Rattle.cli_output.specs.declared.failure.Failure.TheVariants.{Memory}
use Rattle.cli_output.specs.declared.failure.ReadFailure.TheVariants.{Text}
use Rattle.cli_output.specs.declared.failure.TextFault.TheVariants.{TooLong}
use Rattle.cli_files.specs.Files.{HasText, LacksText}
use Rattle.cli_files.specs.MountsFile.{AnswersMounts}
use Rattle.cli_files.specs.declared.folder_systems.FolderSystems.{FolderSystems}
use Rattle.cli_files.specs.declared.folder_systems.FolderSystems.TheVariants.{Listed, Mounted}
use Rattle.cli_files.specs.declared.folder_systems.SystemsFiles.{SystemsFiles}

-- the paths of the two files that list file systems
pub record SystemsPaths : Type 0 where
  pub filesystems : List ℕ
  pub mounts : List ℕ

abbrev pub systems_at : List ℕ → List ℕ → SystemsPaths
systems_at filesystems mounts = record { filesystems = filesystems; mounts = mounts }

abbrev pub systems_paths : SystemsFiles → SystemsPaths
systems_paths files = systems_at files.filesystems.now files.mounts.now

-- the mount points of a text of the file mounts give this answer
pub record AnswersMountsFile (argument path : List ℕ) (result : Result (List Mount) Failure) : Type 0 where
  pub text : List ℕ
  pub has_text : HasText argument path None text
  pub answers : AnswersMounts argument path (read_mounts text) result

-- What a folder has of its file systems: the text of filesystems, or the table of the mount points of mounts; or why it has neither. Which
-- of the files is there, only the system knows.
abbrev pub ReadsSystems : List ℕ → SystemsPaths → Result FolderSystems Failure → Type 0
ReadsSystems argument paths (Ok (Listed text)) = HasText argument paths.filesystems None (string_bytes text)
ReadsSystems argument paths (Ok (Mounted table)) = AnswersMountsFile argument paths.mounts (Ok table)
ReadsSystems argument paths (Err failure) = LacksText argument paths.filesystems None failure ⊎ (LacksText argument paths.mounts None failure ⊎ AnswersMountsFile argument paths.mounts (Err failure))

-- Which of the two files has them, if it is told by which error filesystems cannot be opened: filesystems only if it is opened, and
-- mounts only if filesystems is not found.
abbrev pub FindsSystems : Option ErrorKind → FolderSystems → Type 0
FindsSystems kind (Listed text) = kind ≡ None
FindsSystems kind (Mounted table) = kind ≡ Some NotFound

-- the text is not over the limit
abbrev pub AreShort : FolderSystems → Type 0
AreShort (Listed text) = length (string_bytes text) ≤ 16777216
AreShort (Mounted table) = Unit {0}

-- behind the files of a folder an input has what it had: none of them is standard input
abbrev pub LeavesBehind : SystemsPaths → Option (List ℕ) → Option (List ℕ) → Type 0
LeavesBehind paths known left = paths.filesystems ≢ codes "-" → paths.mounts ≢ codes "-" → left ≡ known

-- the text of these file systems that site keeps, unless it would be over the limit; out of memory says nothing
abbrev pub IsSystemsText : List ℕ → List ℕ → List Mount → Result (List ℕ) Failure → Type 0
IsSystemsText argument path table (Ok text) = text ≡ site_text table
IsSystemsText argument path table (Err failure) = (16777216 < length (site_text table) × IsFileFailure argument path (Text TooLong) failure) ⊎ (failure ≡ Memory)

-- the text that site keeps of the table of a folder's mount points
pub record WritesMounts (argument path : List ℕ) (result : Result (List ℕ) Failure) : Type 0 where
  pub table : List Mount
  pub read : AnswersMountsFile argument path (Ok table)
  pub written : IsSystemsText argument path table result

-- the text of a folder's file systems; or why it has none
abbrev pub ReadsSystemsText : List ℕ → SystemsPaths → Result (List ℕ) Failure → Type 0
ReadsSystemsText argument paths (Ok text) = HasText argument paths.filesystems None text ⊎ WritesMounts argument paths.mounts (Ok text)
ReadsSystemsText argument paths (Err failure) = ReadsSystems argument paths (Err failure) ⊎ WritesMounts argument paths.mounts (Err failure)
