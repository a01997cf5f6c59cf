-- What a policy has in force: the table of file systems, the lines of each, what its texts are warned of, and which of several texts
-- each line is of.
use Rattle.std.specs.Prelude.{◌≡◌, ℕ, ◌<◌, ◌==◌, List, [], nat_lt, length, map, filter, replicate, slice_index_or, slice_set, if◌then◌else◌}
use Rattle.std.specs.List.{All, AllPairs, range_with_len}
use Rattle.desk_tables.specs.declared.filesystems.FsId.{FsId}
use Rattle.desk_tables.specs.declared.filesystems.Mount.{Mount}
use Rattle.desk_tables.specs.declared.hosts.HostRow.{HostRow}
use Rattle.desk_netgroup.specs.declared.group_line.GroupLine.{GroupLine}
use Rattle.desk_exports.specs.Files.{EntriesAscend}
use Rattle.desk_exports.specs.declared.entry.Entry.{Entry}
use Rattle.desk_origins.specs.declared.origins.Origin.{Origin}
use Rattle.desk_policy.specs.declared.row.Row.{Row}
use Rattle.desk_policy.specs.declared.warning.Warning.{Warning}
use Rattle.desk_policy.specs.Row.{row_of}

-- The table of file systems, the lines of each file system, and the warnings of their texts. If several texts were read as one, the
-- numbers of lines are those in the whole, and the origins say which text each line is of; else there are none.
pub record Content : Type 0 where
  pub table : List Mount
  pub rows : List (List Row)
  pub warnings : List Warning
  pub origins : List Origin

-- lines in the order of their numbers, each number once
abbrev pub AreAscending : List Row → Type 0
AreAscending rows = AllPairs (λ row later. row.entry.line < later.entry.line) rows

-- lines for each file system, in order
pub record IsContent (content : Content) : Type 0 where
  pub each : length content.rows ≡ length content.table
  pub ascending : All AreAscending content.rows

-- the lines of a file system, none where there is no such file system
abbrev pub rows_of : Content → ℕ → List Row
rows_of content fs = slice_index_or content.rows fs []

-- the lines in force of the entries that are placed in this file system, in their order, by these groups and hosts
abbrev pub rows_placed : List GroupLine → List HostRow → List (FsId × Entry) → ℕ → List Row
rows_placed netgroups hosts placed fs = map (λ pair. row_of netgroups hosts pair.1) (filter (λ pair. pair.0.0 == fs) placed)

-- of two entries in one file system the later one has the greater line number; each file system may count its own lines
abbrev pub EachFileAscends : List (FsId × Entry) → Type 0
EachFileAscends placed = AllPairs (λ pair later. pair.0.0 ≡ later.0.0 → pair.1.line < later.1.line) placed

-- so it is with the entries of one text, whose lines ascend as a whole
abbrev pub AscendingEntriesAscendInEachFile : Type 0
AscendingEntriesAscendInEachFile = (placed : List (FsId × Entry)) → EntriesAscend placed → EachFileAscends placed

-- other lines for one file system
abbrev pub with_rows : Content → ℕ → List Row → Content
with_rows content fs rows = record { table = content.table; rows = slice_set content.rows fs rows; warnings = content.warnings; origins = content.origins }

-- a policy, with the lines that another has for one file system in place of its own, and the texts that those are of
abbrev pub with_lines_of : Content → ℕ → Content → Content
with_lines_of content fs other = record { table = content.table; rows = slice_set content.rows fs (rows_of other fs); warnings = content.warnings; origins = other.origins }

-- the policy with these file systems of which one has these lines, and no other has any; nothing is warned of
abbrev pub content_of_lines : List Mount → ℕ → List Row → Content
content_of_lines table fs rows = record { table = table; rows = slice_set (replicate (length table) []) fs rows; warnings = []; origins = [] }

-- each file system has the lines of the entries that are placed in it; nothing is warned of
unfoldable pub content_of : List GroupLine → List HostRow → List Mount → List (FsId × Entry) → Content
content_of netgroups hosts table placed = record { table = table; rows = map (rows_placed netgroups hosts placed) (range_with_len 0 (length table)); warnings = []; origins = [] }

-- the same lines, with these warnings
abbrev pub with_warnings : Content → List Warning → Content
with_warnings content warnings = record { table = content.table; rows = content.rows; warnings = warnings; origins = content.origins }

-- the same lines, of these texts
abbrev pub with_origins : Content → List Origin → Content
with_origins content origins = record { table = content.table; rows = content.rows; warnings = content.warnings; origins = origins }

-- the lines in force of a file system of the table are those placed in it, and there are none beyond the table
abbrev pub EachHasItsLines : Type 0
EachHasItsLines =
    (netgroups : List GroupLine) (hosts : List HostRow) (table : List Mount) (placed : List (FsId × Entry)) (fs : ℕ)
    → rows_of (content_of netgroups hosts table placed) fs ≡ (if nat_lt fs (length table) then rows_placed netgroups hosts placed fs else [])
