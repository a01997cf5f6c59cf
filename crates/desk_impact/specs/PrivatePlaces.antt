-- What the private contracts of places cite.
use Rattle.std.specs.Prelude.{◌≡◌, ℕ, Bool, true, false, List, ◌∷◌, [], ◌++◌}
use Rattle.std.specs.List.{AllPairs, flat_map}
use Rattle.desk_tables.specs.FileSystems.{fs_of, is_before}
use Rattle.desk_tables.specs.declared.filesystems.Mount.{Mount}
use Rattle.desk_policy.specs.Listings.{written}
use Rattle.desk_policy.specs.Policy.{Content}
use Rattle.desk_policy.specs.Verdict.{is_directory_among, is_in}
use Rattle.desk_policy.specs.declared.row.Row.{Row}
use Rattle.desk_impact.specs.Places.{AreInOrder, Directory, Others, Place, all_written, mounts_of_both, places_at}

-- the directories that lines of a policy and these lines write
abbrev pub dirs_with : Content → List Row → List (List (List ℕ))
dirs_with content rows = all_written content ++ written rows

-- the places of a policy, and of the same with these lines for one of its file systems
pub record ArePlacesWith (content : Content) (rows : List Row) (places : List Place) : Type 0 where
  pub mounts : List (List (List ℕ))
  pub dirs : List (List (List ℕ))
  pub mounts_are : AreInOrder (mounts_of_both content content) mounts
  pub dirs_are : AreInOrder (dirs_with content rows) dirs
  pub are : places ≡ flat_map (places_at mounts dirs) mounts

-- the path of a place: that of the directory, or the mount point
abbrev pub path_of : Place → List (List ℕ)
path_of (Directory path) = path
path_of (Others mount) = mount

-- a place is in this file system
abbrev pub is_place_in : List Mount → ℕ → Place → Bool
is_place_in table fs place = is_in (fs_of table (path_of place)) fs

-- paths in byte order of their printed forms, each once
abbrev pub AreAscending : List (List (List ℕ)) → Type 0
AreAscending paths = AllPairs (λ path later. is_before path later ≡ true) paths

-- a path right below a mount point that is none of these
pub record IsFree (mount : List (List ℕ)) (taken : List (List (List ℕ))) (path : List (List ℕ)) : Type 0 where
  pub name : List ℕ
  pub below : path ≡ mount ++ name ∷ []
  pub free : is_directory_among path taken ≡ false
