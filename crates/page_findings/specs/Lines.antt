-- The lines of a site, each with what a report tells of it. (this project's own)
use Rattle.std.specs.Prelude.{◌≡◌, ℕ, ◌<◌, All, Bool, Contains, List, [], length, map, nat_lt, not, slice_index_or}
use Rattle.std.specs.List.{flat_map, range_with_len}
use Rattle.desk_exports.specs.declared.entry.Flavour.{Flavour}
use Rattle.desk_policy.specs.Policy.{Content, rows_of}
use Rattle.desk_policy.specs.declared.row.Row.{Row}
use Rattle.page_data.specs.Grants.{GrantsTo, HoldsOf}
use Rattle.page_data.specs.Lines.{AreLineReasons, IsToldOf}
use Rattle.page_data.specs.ReasonValues.{ReasonValue, reason_value}
use Rattle.page_data.specs.declared.lines.LineReasons.{LineReasons}
use Rattle.page_data.specs.declared.reasons.Reason.{Reason}
use Rattle.page_findings.specs.declared.lines.SiteLine.{SiteLine}

-- a line of a file system, to how many addresses it grants something, and why it stands out
pub record LineValue : Type 0 where
  pub fs : ℕ
  pub row : Row
  pub count : ℕ
  pub reasons : List Reason

abbrev pub line_value : SiteLine → LineValue
line_value line = record { fs = line.fs.0; row = line.row.now; count = line.count; reasons = line.reasons.now }

-- a line by value: what its reasons lend may be kept anywhere
pub record KnownLine : Type 0 where
  pub fs : ℕ
  pub row : Row
  pub count : ℕ
  pub reasons : List ReasonValue

abbrev pub known_line : LineValue → KnownLine
known_line line = record { fs = line.fs; row = line.row; count = line.count; reasons = map reason_value line.reasons }

-- a line and its file system
pub record PlacedRow : Type 0 where
  pub fs : ℕ
  pub row : Row

abbrev pub placed : LineValue → PlacedRow
placed line = record { fs = line.fs; row = line.row }

abbrev pub placed_in : ℕ → Row → PlacedRow
placed_in fs row = record { fs = fs; row = row }

-- those of a file system, in their order
abbrev pub rows_in : Content → ℕ → List PlacedRow
rows_in content fs = map (placed_in fs) (rows_of content fs)

-- this is told of a line, which is one of its file system
pub record IsLineOf (content : Content) (line : LineValue) : Type 0 where
  pub has : Contains (rows_of content line.fs) line.row
  pub count : HoldsOf (GrantsTo content line.fs line.row.entry.line) line.count
  pub reasons : IsToldOf content line.fs (record { line = line.row.entry.line; reasons = line.reasons })

-- The lines of all file systems, in the order of their table and of the lines, each with what is told of it.
pub record AreLinesOfSite (content : Content) (lines : List LineValue) : Type 0 where
  pub rows : map placed lines ≡ flat_map (rows_in content) (range_with_len 0 (length content.table))
  pub each : All (IsLineOf content) lines

-- Why each line stands out, by file system, in the order of their table.
pub record AreReasonsOfSite (content : Content) (reasons : List (List LineReasons)) : Type 0 where
  pub count : length reasons ≡ length content.table
  pub each : (fs : ℕ) → fs < length content.table → AreLineReasons content fs (slice_index_or reasons fs [])

-- a line grants something to some address
abbrev pub grants : LineValue → Bool
grants line = nat_lt 0 line.count

-- it lets clients write
abbrev pub is_read_write : LineValue → Bool
is_read_write line = not line.row.entry.terms.ro

-- its flavours, most preferred first
abbrev pub flavours_of : LineValue → List Flavour
flavours_of line = line.row.entry.terms.flavours
