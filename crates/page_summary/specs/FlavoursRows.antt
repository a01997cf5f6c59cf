-- The rows of the security flavours. (this project's own)
use Rattle.std.specs.Prelude.{◌≡◌, ℕ, List, map}
use Rattle.desk_exports.specs.declared.entry.Flavour.{Flavour}
use Rattle.desk_tables.specs.declared.filesystems.Mount.{Mount}
use Rattle.page_findings.specs.Flavours.{AreFlavoursInUse, UseValue}
use Rattle.page_findings.specs.Lines.{LineValue}
use Rattle.page_lists.specs.Uses.{MentionValue, OfSystem, mention_value}
use Rattle.page_lists.specs.declared.mentions.Mention.{Mention}
use Rattle.page_summary.specs.declared.flavours.FlavoursRow.{FlavoursRow}
use Rattle.page_summary.specs.Files.{name_of}

-- a file system with its printed mount point, as a cell names it
abbrev pub named_in : List Mount → ℕ → MentionValue
named_in table fs = OfSystem fs (name_of table fs)

-- what a cell names
abbrev pub all_mentioned : List Mention → List MentionValue
all_mentioned mentions = map mention_value mentions

-- a row by value
pub record FlavoursValue : Type 0 where
  pub flavours : List Flavour
  pub lines : ℕ
  pub writable : ℕ
  pub systems : List MentionValue

abbrev pub row_value : FlavoursRow → FlavoursValue
row_value row = record { flavours = row.flavours.now; lines = row.lines; writable = row.writable; systems = all_mentioned row.systems.now }

-- the file systems of flavours in use, as a cell names them, and their row
abbrev pub systems_of : List Mount → UseValue → List MentionValue
systems_of table one = map (named_in table) one.filesystems

abbrev pub row_with : UseValue → List MentionValue → FlavoursValue
row_with one systems = record { flavours = one.flavours; lines = one.lines; writable = one.read_write; systems = systems }

abbrev pub row_of : List Mount → UseValue → FlavoursValue
row_of table one = row_with one (systems_of table one)

-- The rows of the flavours of the lines that grant something, in their order.
pub record AreFlavoursRows (table : List Mount) (lines : List LineValue) (rows : List FlavoursRow) : Type 0 where
  pub uses : List UseValue
  pub are : AreFlavoursInUse lines uses
  pub told : map row_value rows ≡ map (row_of table) uses
