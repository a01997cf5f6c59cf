-- The part of the page on one file system, by what is found of it. (this project's own)
use Rattle.std.specs.Prelude.{◌≡◌, ℕ, ◌-◌, ◌<◌, ◌^◌, ◌++◌, All, IfSome, List, [], Option, Some, None, length, map, slice_get}
use Rattle.std.specs.Option.{option_copied}
use Rattle.desk_text.specs.Lines.{IsReadable}
use Rattle.desk_text.specs.Path.{path_text}
use Rattle.desk_tables.specs.declared.filesystems.Mount.{Mount}
use Rattle.desk_policy.specs.Policy.{rows_of}
use Rattle.desk_who.specs.Runs.{Run}
use Rattle.page_data.specs.Classes.{AreClassesIn, class_run}
use Rattle.page_data.specs.Counts.{AreCountsFrom}
use Rattle.page_data.specs.Laws.{IsSoundSite}
use Rattle.page_data.specs.declared.class.Class.{Class}
use Rattle.page_findings.specs.Lines.{AreLinesOfSite, LineValue, line_value}
use Rattle.desk_core.specs.declared.head.Head.{Head}
use Rattle.page_places.specs.Groups.{HasToldSizes}
use Rattle.page_filesystem.specs.Parts.{IsReadableProposal, file_system}
use Rattle.page_filesystem.specs.declared.gutter.Note.{Note}
use Rattle.page_filesystem.specs.declared.parts.FileSystemPart.{FileSystemPart}
use Rattle.page_filesystem.specs.Notes.{NotesAscend, notes_of}
use Rattle.page_filesystem.specs.OwnLines.{lines_in}
use Rattle.page_filesystem.specs.CountedShares.{AreShares}
use Rattle.page_filesystem.specs.declared.own_parts.FileSystemData.{FileSystemData}

-- the text of a revision, the empty one if there is none
abbrev pub text_of : Option Head → List ℕ
text_of None = []
text_of (Some head) = head.body

-- the text in force of a file system, its lines, and the most that clients may on it
abbrev pub text_in : FileSystemData → List ℕ
text_in given = text_of (option_copied given.head)

abbrev pub own_lines : FileSystemData → List LineValue
own_lines given = lines_in (map line_value given.lines.now) given.fs.0

abbrev pub runs_in : FileSystemData → List (Run Class)
runs_in given = map class_run given.classes.now

-- a revision is not too long to be read
abbrev pub IsReadableHead : Head → Type 0
IsReadableHead head = IsReadable head.body

-- What is given is found of a file system of a sound policy, its texts are not too long to be read, and no number of addresses is more
-- than there are.
pub record CanBeTold (given : FileSystemData) : Type 0 where
  pub sound : IsSoundSite given.policy.now
  pub listed : given.fs.0 < length given.policy.now.table
  pub classes : AreClassesIn given.policy.now given.fs.0 (runs_in given)
  pub lines : AreLinesOfSite given.policy.now (map line_value given.lines.now)
  pub readable : IfSome (option_copied given.head) IsReadableHead
  pub proposal : IfSome given.proposal IsReadableProposal
  pub groups : All HasToldSizes given.groups.now

-- the notes on its text in force
pub record AreNotesFor (given : FileSystemData) (notes : List Note) : Type 0 where
  pub are : notes ≡ notes_of (own_lines given) (text_in given)
  pub ascend : NotesAscend notes

-- The part tells of the file system: its mount point and who keeps its file, the newest revision of that, to how many addresses it is
-- open in which way, what each line of its text does, and the shares of networks; and besides just what was given.
pub record IsPartOf (given : FileSystemData) (part : FileSystemPart) : Type 0 where
  pub mount : Mount
  pub is_mount : slice_get given.policy.now.table given.fs.0 ≡ Some mount
  pub fs : part.fs ≡ given.fs
  pub name : part.name.now ≡ path_text mount.path
  pub head : option_copied part.head ≡ option_copied given.head
  pub custodians : part.custodians.now ≡ mount.custodians
  pub guarded : part.guarded ≡ mount.guarded
  pub counts : AreCountsFrom (runs_in given) 0 (2 ^ 32 - 1) part.counts
  pub findings : part.findings.now ≡ given.findings.now
  pub proposal : part.proposal ≡ given.proposal
  pub text : part.text.now ≡ text_in given
  pub notes : part.notes.now ≡ notes_of (own_lines given) (text_in given)
  pub maps : part.maps.now ≡ given.maps.now
  pub shares : AreShares (runs_in given) (rows_of given.policy.now given.fs.0)
      (record { shares = part.shares.now; left_out = part.networks_left_out })
  pub groups : part.groups.now ≡ given.groups.now
  pub group_count : part.group_count ≡ given.group_count
  pub unlisted : part.unlisted ≡ given.unlisted
  pub has_unlisted_others : part.has_unlisted_others ≡ given.has_unlisted_others

-- The part of the page on a file system is added.
pub record Tells (given : FileSystemData) (old new : List ℕ) : Type 0 where
  pub part : FileSystemPart
  pub is : IsPartOf given part
  pub added : new ≡ old ++ file_system part
