-- The places of which two policies may say something: each mount point, each written directory, and all others of a mount point.
-- (this project's own)
use Rattle.std.specs.Prelude.{◌≡◌, ℕ, ◌++◌, not, ◌&&◌, ◌||◌, Bool, true, false, All, Contains, List, [], ◌∷◌, Option, Some, None, Result, Err, filter, map}
use Rattle.std.specs.Borrow.{Bor}
use Rattle.std.specs.List.{AllPairs, flat_map, list_all, list_any}
use Rattle.desk_text.specs.Path.{IsPath, is_under, same_path}
use Rattle.desk_tables.specs.FileSystems.{fs_of, is_before, mount_points}
use Rattle.desk_policy.specs.Listings.{written}
use Rattle.desk_policy.specs.Policy.{Content, rows_of}
use Rattle.desk_policy.specs.Verdict.{Grant, is_directory_among, verdict_among, verdict_of}
use Rattle.desk_policy.specs.Weights.{selected}
use Rattle.desk_policy.specs.declared.verdict.Denial.{Denial}
use Rattle.desk_policy.specs.declared.verdict.Denial.TheVariants.{NoFileSystem}
use Rattle.desk_impact.specs.Impact.{TwoVerdicts, verdicts_at}
use Rattle.desk_impact.specs.declared.places.Place.{Place as LentPlace}
use Rattle.desk_impact.specs.declared.places.Place.TheVariants as lent

-- a path, or all paths of the file system of a mount point that no line writes
pub data Place : Type 0 where
  Directory : List (List ℕ) → Place
  Others : List (List ℕ) → Place

-- a place by value
abbrev pub place_of : LentPlace → Place
place_of (lent.Directory path) = Directory path.now
place_of (lent.Others mount) = Others mount.now

-- the verdict on a path of this file system that no line writes: lines with -alldirs alone list it
abbrev pub verdict_elsewhere : Content → ℕ → Option ℕ → Result Grant Denial
verdict_elsewhere content address None = Err NoFileSystem
verdict_elsewhere content address (Some fs) = verdict_among (record { 0 = fs }) (λ row. row.entry.alldirs) (selected (rows_of content fs) address)

-- the verdict of a policy on a place
abbrev pub place_verdict : Content → Place → ℕ → Result Grant Denial
place_verdict content (Directory path) address = verdict_of content address path
place_verdict content (Others mount) address = verdict_elsewhere content address (fs_of content.table mount)

-- those of two policies
abbrev pub place_verdicts : Content → Content → Place → ℕ → TwoVerdicts
place_verdicts before after place address = record { before = place_verdict before place address; after = place_verdict after place address }

-- lent paths by value
abbrev pub paths_in : List (Bor (List (List ℕ))) → List (List (List ℕ))
paths_in paths = map (λ path. path.now) paths

-- paths in byte order of their printed forms, each once, that are just the given ones
pub record AreInOrder (given ordered : List (List (List ℕ))) : Type 0 where
  pub ascend : AllPairs (λ path later. is_before path later ≡ true) ordered
  pub all : All (Contains ordered) given
  pub only : All (Contains given) ordered

-- the mount points of two policies
abbrev pub mounts_of_both : Content → Content → List (List (List ℕ))
mounts_of_both before after = mount_points before.table ++ mount_points after.table

-- the directories that lines of a policy write, of whichever file system
abbrev pub all_written : Content → List (List (List ℕ))
all_written content = flat_map written content.rows

-- the directories that lines of two policies write
abbrev pub dirs_of_both : Content → Content → List (List (List ℕ))
dirs_of_both before after = all_written before ++ all_written after

-- the mount points of two policies, and the directories that their lines write
abbrev pub taken_by : Content → Content → List (List (List ℕ))
taken_by before after = mounts_of_both before after ++ dirs_of_both before after

-- a path is under this mount point, and this one under each other mount point that the path is under
abbrev pub is_home : List (List (List ℕ)) → List (List ℕ) → List (List ℕ) → Bool
is_home mounts path mount = is_under path mount && list_all (λ other. not (is_under path other) || is_under mount other) mounts

-- the directories below a mount point, and below no other mount point between
abbrev pub dirs_below : List (List (List ℕ)) → List (List (List ℕ)) → List (List ℕ) → List (List (List ℕ))
dirs_below mounts dirs mount = filter (λ dir. is_home mounts dir mount && not (same_path dir mount)) dirs

-- the places of a mount point: itself, the written directories below it, and the others
abbrev pub places_at : List (List (List ℕ)) → List (List (List ℕ)) → List (List ℕ) → List Place
places_at mounts dirs mount = Directory mount ∷ map Directory (dirs_below mounts dirs mount) ++ Others mount ∷ []

-- the places of two policies, by mount point
pub record ArePlaces (before after : Content) (places : List Place) : Type 0 where
  pub mounts : List (List (List ℕ))
  pub dirs : List (List (List ℕ))
  pub mounts_are : AreInOrder (mounts_of_both before after) mounts
  pub dirs_are : AreInOrder (dirs_of_both before after) dirs
  pub are : places ≡ flat_map (places_at mounts dirs) mounts

-- a path is decided on as one of the places is
pub record HasPlace (before after : Content) (places : List Place) (path : List (List ℕ)) : Type 0 where
  pub place : Place
  pub listed : Contains places place
  pub same : (address : ℕ) → verdicts_at before after path address ≡ place_verdicts before after place address

-- Each path of a mount point's file system is decided on as one of the places is, at every address.
abbrev pub PlacesTellAll : Type 0
PlacesTellAll =
    (before after : Content) (places : List Place) → ArePlaces before after places
    → (mount path : List (List ℕ)) → Contains (mounts_of_both before after) mount → is_home (mounts_of_both before after) path mount ≡ true
    → HasPlace before after places path

-- a path is at home at one of these mount points
pub record HasHome (mounts : List (List (List ℕ))) (path : List (List ℕ)) : Type 0 where
  pub mount : List (List ℕ)
  pub listed : Contains mounts mount
  pub home : is_home mounts path mount ≡ true

-- Each path that is under one of these mount points is at home at one.
abbrev pub PathsHaveHomes : Type 0
PathsHaveHomes = (mounts : List (List (List ℕ))) (path : List (List ℕ)) → list_any (is_under path) mounts ≡ true → HasHome mounts path

-- a directory at home at a mount point that is none of the mount points, and that no line writes
pub record HasOther (mounts dirs : List (List (List ℕ))) (mount : List (List ℕ)) : Type 0 where
  pub path : List (List ℕ)
  pub spelled : IsPath mount → IsPath path
  pub home : is_home mounts path mount ≡ true
  pub apart : is_directory_among path mounts ≡ false
  pub unwritten : is_directory_among path dirs ≡ false

-- Each mount point has other directories, whatever is mounted and written: so that no place is made up.
abbrev pub MountsHaveOthers : Type 0
MountsHaveOthers = (mounts dirs : List (List (List ℕ))) (mount : List (List ℕ)) → HasOther mounts dirs mount

-- A path that is under no mount point is in no file system by either policy.
abbrev pub OtherPathsHaveNone : Type 0
OtherPathsHaveNone =
    (before after : Content) (path : List (List ℕ)) → list_any (is_under path) (mounts_of_both before after) ≡ false
    → (address : ℕ) → verdicts_at before after path address ≡ record { before = Err NoFileSystem; after = Err NoFileSystem }
