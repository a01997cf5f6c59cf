-- The lines of policies by the directories that they write. (this project's own)
use Rattle.std.specs.Prelude.{ℕ, ◌++◌, All, Contains, List, map}
use Rattle.std.specs.Cmp.Lexicographic.{slice_cmp}
use Rattle.std.specs.List.{flat_map}
use Rattle.std.specs.List.Sorted.{IsSortedByKey}
use Rattle.std.specs.Ordering.{nat_cmp}
use Rattle.desk_text.specs.Path.{path_text}
use Rattle.desk_policy.specs.Policy.{Content}
use Rattle.desk_policy.specs.declared.row.Row.{Row}
use Rattle.desk_impact.specs.declared.writings.Writing.{Writing}

-- a line, and a directory that it writes
pub record Written : Type 0 where
  pub dir : List (List ℕ)
  pub row : Row

-- a line with a directory that it writes, by value
abbrev pub writing_value : Writing → Written
writing_value writing = record { dir = writing.dir.now; row = writing.row.now }

-- those of a line
abbrev pub written_by : Row → List Written
written_by row = map (λ dir. record { dir = dir; row = row }) row.entry.dirs

-- those of lines
abbrev pub written_by_all : List Row → List Written
written_by_all rows = flat_map written_by rows

-- those of two policies
abbrev pub written_by_both : Content → Content → List Written
written_by_both before after = flat_map written_by_all before.rows ++ flat_map written_by_all after.rows

-- in byte order of the printed directories
abbrev pub AreInByteOrder : List Writing → Type 0
AreInByteOrder writings = IsSortedByKey (λ writing. path_text writing.dir.now) (slice_cmp nat_cmp) writings

-- all writings of two policies, in byte order
pub record AreWritings (before after : Content) (writings : List Writing) : Type 0 where
  pub order : AreInByteOrder writings
  pub all : All (Contains (map writing_value writings)) (written_by_both before after)
