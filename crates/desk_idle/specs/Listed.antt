-- What some lines list: the directories that they write, and whether one of them has -alldirs. (this project's own)
use Rattle.std.specs.Prelude.{◌≡◌, ℕ, List}
use Rattle.std.specs.Borrow.{Bor}
use Rattle.std.specs.BTreeSet.{BTreeSet}
use Rattle.std.specs.BTreeSet as sorted
use Rattle.std.specs.Cmp.Lexicographic.{slice_cmp}
use Rattle.std.specs.List.{list_any}
use Rattle.std.specs.Ordering.{nat_cmp}
use Rattle.std.specs.declared.cmp.Ordering.{Ordering}
use Rattle.desk_text.specs.Path.{IsPath, path_text}
use Rattle.desk_policy.specs.Listings.{written}
use Rattle.desk_policy.specs.Verdict.{is_directory_among}
use Rattle.desk_policy.specs.declared.row.Row.{Row}
use Rattle.desk_idle.specs.declared.listed.Listed.{Listed}

-- the order of lent paths
abbrev pub order : Bor (List (List ℕ)) → Bor (List (List ℕ)) → Ordering
order path other = slice_cmp nat_cmp (path_text path.now) (path_text other.now)

-- a set has just these directories
abbrev pub HasDirs : BTreeSet (Bor (List (List ℕ))) → List (List (List ℕ)) → Type 0
HasDirs set dirs = (path : Bor (List (List ℕ))) → IsPath path.now → sorted.contains order set path ≡ is_directory_among path.now dirs

-- this is what these lines list
pub record IsListedBy (listed : Listed) (rows : List Row) : Type 0 where
  pub alldirs : listed.alldirs ≡ list_any (λ row. row.entry.alldirs) rows
  pub dirs : HasDirs listed.dirs (written rows)
