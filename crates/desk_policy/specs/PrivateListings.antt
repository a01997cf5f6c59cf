-- What the private contracts of listings cite.
use Rattle.std.specs.Prelude.{◌≡◌, ℕ, ◌++◌, Bool, true, false, List, [], ◌∷◌, Option, Some, None, filter, map, if◌then◌else◌}
use Rattle.std.specs.List.{AllByRecursion, list_any}
use Rattle.desk_text.specs.Path.{are_printed_alike, same_path}
use Rattle.desk_tables.specs.FileSystems.{fs_of, is_before}
use Rattle.desk_tables.specs.declared.filesystems.FsId.{FsId}
use Rattle.desk_tables.specs.declared.filesystems.Mount.{Mount}
use Rattle.desk_policy.specs.Listings.{written}
use Rattle.desk_policy.specs.Policy.{Content, rows_of}
use Rattle.desk_policy.specs.Verdict.{is_directory_among, is_in}
use Rattle.desk_policy.specs.declared.listings.Shown.{Shown}
use Rattle.desk_policy.specs.declared.row.Row.{Row}

-- those of these directories that are in this file system
abbrev pub own_dirs : List Mount → ℕ → List (List (List ℕ)) → List (List (List ℕ))
own_dirs table fs dirs = filter (λ dir. is_in (fs_of table dir) fs) dirs

-- The directories that selected lines list, some of them more than once: those that they write themselves, and if one has
-- -alldirs, those of the file system that any of its lines writes.
abbrev pub gathered : Content → ℕ → List Row → List (List (List ℕ))
gathered content fs chosen =
    written chosen ++ (if list_any (λ row. row.entry.alldirs) chosen then own_dirs content.table fs (written (rows_of content fs)) else [])

-- each path comes before the later ones
abbrev pub Rises : List (List (List ℕ)) → Type 0
Rises [] = Unit {0}
Rises (path ∷ paths) = AllByRecursion (λ later. is_before path later ≡ true) paths × Rises paths

-- paths in order, without duplicates, that are just the given ones
pub record IsOrderOf (given ordered : List (List (List ℕ))) : Type 0 where
  pub rises : Rises ordered
  pub same : (path : List (List ℕ)) → is_directory_among path ordered ≡ is_directory_among path given

-- the last of the paths passes a test
abbrev pub last_passes : (List (List ℕ) → Bool) → List (List (List ℕ)) → Bool
last_passes test [] = false
last_passes test (path ∷ []) = test path
last_passes test (path ∷ next ∷ paths) = last_passes test (next ∷ paths)

-- the paths with one more, unless it is the last of them
abbrev pub with_next : List (List (List ℕ)) → List (List ℕ) → List (List (List ℕ))
with_next paths path = if last_passes (λ last. same_path last path) paths then paths else paths ++ path ∷ []

-- A path that is printed as the last one is the last one.
abbrev pub PrintedAsLastIsLast : List (List (List ℕ)) → List (List ℕ) → Type 0
PrintedAsLastIsLast paths path = last_passes (λ last. are_printed_alike last path) paths ≡ last_passes (λ last. same_path last path) paths

-- what lines that are selected show of their file system
pub record ShowsFirst (content : Content) (fs : FsId) (first : Row) (chosen : List Row) (shown : Shown) : Type 0 where
  pub own_fs : shown.fs ≡ fs
  pub dirs : IsOrderOf (gathered content fs.0 chosen) shown.dirs
  pub alldirs : shown.alldirs ≡ list_any (λ row. row.entry.alldirs) chosen
  pub terms : shown.terms ≡ first.entry.terms
  pub lines : shown.lines ≡ map (λ row. row.entry.line) chosen

abbrev pub IsShownBy : Content → FsId → List Row → Option Shown → Type 0
IsShownBy content fs [] None = Unit {0}
IsShownBy content fs [] (Some shown) = ⊥
IsShownBy content fs (first ∷ others) None = ⊥
IsShownBy content fs (first ∷ others) (Some shown) = ShowsFirst content fs first (first ∷ others) shown
