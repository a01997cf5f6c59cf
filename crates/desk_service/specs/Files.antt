-- The files that have a revision or a proposal, each with its mark. (this project's own)
use Rattle.std.specs.Prelude.{◌≡◌, ℕ, List, Option, map, if◌then◌else◌}
use Rattle.std.specs.Option.{option_copied}
use Rattle.desk_tables.specs.declared.filesystems.Mount.{Mount}
use Rattle.desk_core.specs.Head.{Revision, newest_in}
use Rattle.desk_core.specs.Judging.{is_guarded_file, is_known, table_in}
use Rattle.desk_core.specs.Listing.{AreHeldFiles, HeldFile, name_of}
use Rattle.desk_core.specs.Standing.{Standing}
use Rattle.desk_core.specs.declared.head.Head.{Head}
use Rattle.desk_core.specs.declared.proposal.Proposal.{Proposal}
use Rattle.desk_service.specs.declared.files.ListedFile.{ListedFile as LentFile}
use Rattle.desk_service.specs.declared.files.ListedFiles.{ListedFiles as LentFiles}
use Rattle.desk_service.specs.declared.files.Mark.{Mark}
use Rattle.desk_service.specs.declared.files.Mark.TheVariants.{Guarded, Plain, Unlisted}

-- a file: its newest revision, its proposal, and its mark
pub record ListedFile : Type 0 where
  pub newest : Option Revision
  pub proposal : Option Proposal
  pub mark : Mark

-- the same by value
abbrev pub file_of : LentFile → ListedFile
file_of file = record { newest = option_copied file.newest; proposal = option_copied file.proposal; mark = file.mark }

-- files, with the file systems that are listed now, and the newest revision of each file, in no order
pub record ListedFiles : Type 0 where
  pub table : List Mount
  pub heads : List Head
  pub files : List ListedFile

-- the same by value
abbrev pub files_of : LentFiles → ListedFiles
files_of listed = record { table = listed.filesystems.now; heads = listed.heads.now; files = map file_of listed.files.items }

-- The mark of a file, where these file systems are listed: that it is guarded, or that it is the exports file of none of them. The
-- seven files, and an exports file that is not guarded, have none.
abbrev pub mark_of : List Mount → List ℕ → Mark
mark_of table file = if is_guarded_file table file then Guarded else if is_known table file then Plain else Unlisted

-- a file with its mark
abbrev pub marked : List Mount → HeldFile → ListedFile
marked table file = record { newest = file.newest; proposal = file.proposal; mark = mark_of table (name_of file) }

-- These are the files that have a revision or a proposal, in the order of a site, each with its mark, where these file systems are listed.
pub record AreFilesOf (table : List Mount) (standing : Standing) (files : List ListedFile) : Type 0 where
  pub held : List HeldFile
  pub are : AreHeldFiles standing held
  pub files_are : files ≡ map (marked table) held

-- These are the files that have a revision or a proposal, with the file systems that are listed, and the newest revisions.
pub record AreListed (standing : Standing) (listed : ListedFiles) : Type 0 where
  pub table : listed.table ≡ table_in standing.newest
  pub newest : newest_in listed.heads ≡ standing.newest
  pub files : AreFilesOf (table_in standing.newest) standing listed.files
