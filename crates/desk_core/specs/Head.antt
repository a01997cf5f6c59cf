-- The newest revisions of files. (this project's own)
use Rattle.std.specs.Prelude.{◌≢◌, ℕ, ◌<◌, ◌≤◌, List, Option, Some, find, if◌then◌else◌}
use Rattle.std.specs.List.{AllPairs}
use Rattle.std.specs.Option.{option_map_or}
use Rattle.std.specs.Str.{bytes_eq}
use Rattle.desk_text.specs.Lines.{IsReadable}
use Rattle.desk_core.specs.declared.head.Head.{Head}

-- a revision of a file: its number, who wrote it, who approved it if the file was guarded, the profile by which it is
-- read, and its text
abbrev pub Revision : Type 0
Revision = Head

-- of each file its newest revision, if it has one
abbrev pub Newest : Type 0
Newest = List ℕ → Option Revision

-- the newest revisions that a list of heads gives, one for each file
unfoldable pub newest_in : List Head → Newest
newest_in heads file = find (λ head. bytes_eq head.file file) heads

-- the newest revisions, if this one is that of its file
abbrev pub put : Newest → Revision → Newest
put newest revision file = if bytes_eq revision.file file then Some revision else newest file

-- the number of a file's newest revision, 0 if it has none
abbrev pub newest_number : Option Revision → ℕ
newest_number newest = option_map_or (λ revision. revision.rev) newest 0

-- no two heads are of one file
abbrev pub StandOnce : List Head → Type 0
StandOnce heads = AllPairs (λ head later. head.file ≢ later.file) heads

-- the last number that a revision may have
abbrev pub last_revision : ℕ
last_revision = 2147483647

-- the most bytes that the text of a revision may have when it is stored
abbrev pub longest_revision : ℕ
longest_revision = 65536

-- a revision that can be kept: it is numbered from 1 to the last number, and its text is not too long to be read
pub record CanBeKept (revision : Revision) : Type 0 where
  pub from : 0 < revision.rev
  pub to : revision.rev ≤ last_revision
  pub short : IsReadable revision.body
