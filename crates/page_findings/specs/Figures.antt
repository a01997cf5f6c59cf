-- The key figures of a site. (this project's own)
use Rattle.std.specs.Prelude.{◌≡◌, ℕ, ◌&&◌, not, Bool, List, count_by, length}
use Rattle.std.specs.List.{flat_map}
use Rattle.desk_impact.specs.Places.{AreInOrder}
use Rattle.desk_policy.specs.Policy.{Content}
use Rattle.page_data.specs.Class.{keeps_root}
use Rattle.page_data.specs.Reasons.{are_all, are_names}
use Rattle.page_findings.specs.Lines.{LineValue, grants, is_read_write}
use Rattle.page_findings.specs.declared.figures.Figures.{Figures}

-- a line grants something, and is for everybody
abbrev pub is_for_everybody : LineValue → Bool
is_for_everybody line = grants line && are_all line.row.entry.clients

-- and lets them write
abbrev pub is_writable_by_everybody : LineValue → Bool
is_writable_by_everybody line = is_for_everybody line && is_read_write line

-- a line grants something, and keeps root
abbrev pub keeps_root_for_some : LineValue → Bool
keeps_root_for_some line = grants line && keeps_root line.row.entry.terms

-- for clients that it does not write by their names
abbrev pub keeps_root_for_networks : LineValue → Bool
keeps_root_for_networks line = keeps_root_for_some line && not (are_names line.row.entry.clients)

-- a line grants nothing
abbrev pub grants_nothing : LineValue → Bool
grants_nothing line = not (grants line)

-- the directories that a line writes
abbrev pub directories_of : LineValue → List (List (List ℕ))
directories_of line = line.row.entry.dirs

-- lines write so many directories, each of which counts once
pub record HasDirectories (lines : List LineValue) (count : ℕ) : Type 0 where
  pub directories : List (List (List ℕ))
  pub are : AreInOrder (flat_map directories_of lines) directories
  pub many : count ≡ length directories

-- How many file systems, lines and directories there are; how many lines that grant something are for everybody, and let them write;
-- how many keep root, and not for names; and how many lines grant nothing.
pub record AreFigures (content : Content) (lines : List LineValue) (figures : Figures) : Type 0 where
  pub filesystems : figures.filesystems ≡ length content.table
  pub all : figures.lines ≡ length lines
  pub directories : HasDirectories lines figures.directories
  pub for_everybody : figures.for_everybody ≡ count_by is_for_everybody lines
  pub for_everybody_read_write : figures.for_everybody_read_write ≡ count_by is_writable_by_everybody lines
  pub root_kept : figures.root_kept ≡ count_by keeps_root_for_some lines
  pub root_kept_for_networks : figures.root_kept_for_networks ≡ count_by keeps_root_for_networks lines
  pub without_effect : figures.without_effect ≡ count_by grants_nothing lines
