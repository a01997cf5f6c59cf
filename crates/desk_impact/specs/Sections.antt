-- Where something is found, at a directory and at all below it, and for whom. (this project's own)
use Rattle.std.specs.Prelude.{◌≡◌, ◌↔◌, ℕ, ◌<◌, ◌^◌, ◌==◌, not, All, Contains, Bool, true, false, List, [], ◌∷◌, None, Option, Result, Some, filter, length, map}
use Rattle.std.specs.List.{flat_map}
use Rattle.desk_text.specs.Path.{is_under, same_path}
use Rattle.desk_tables.specs.FileSystems.{fs_of, mount_points}
use Rattle.desk_policy.specs.Policy.{Content, rows_of}
use Rattle.desk_policy.specs.Verdict.{Grant, verdict_of}
use Rattle.desk_policy.specs.declared.verdict.Denial.{Denial}
use Rattle.desk_policy.specs.declared.verdict.Verdict.{Verdict}
use Rattle.desk_who.specs.Runs.{AreRunsWithValue, Run, run_value}
use Rattle.desk_who.specs.Searching.{AsksThoseThatMatch, Rule, found_at}
use Rattle.desk_who.specs.Who.{range_value}
use Rattle.desk_impact.specs.Places.{AreInOrder, Directory, Others, Place, all_written, place_of, place_verdict, places_at}
use Rattle.desk_impact.specs.declared.sections.Section.{Section as KeptSection}

-- a directory, and the mount points that are under it
abbrev pub roots_below : Content → List (List ℕ) → List (List (List ℕ))
roots_below content dir = dir ∷ filter (λ mount. is_under mount dir) (mount_points content.table)

-- the places of a directory and of all below it, by root
pub record ArePlacesBelow (content : Content) (dir : List (List ℕ)) (places : List Place) : Type 0 where
  pub roots : List (List (List ℕ))
  pub dirs : List (List (List ℕ))
  pub roots_are : AreInOrder (roots_below content dir) roots
  pub dirs_are : AreInOrder (all_written content) dirs
  pub are : places ≡ flat_map (places_at roots dirs) roots

-- the places of a directory, and if asked of all below it
abbrev pub ArePlacesIn : Content → List (List ℕ) → Bool → List Place → Type 0
ArePlacesIn content dir true places = ArePlacesBelow content dir places
ArePlacesIn content dir false places = places ≡ Directory dir ∷ []

-- the path is the directory, or if asked lies below it
abbrev pub is_in_scope : List (List ℕ) → Bool → List (List ℕ) → Bool
is_in_scope dir true path = is_under path dir
is_in_scope dir false path = same_path path dir

-- a place stands for a path: it has the verdicts of the path at every address
abbrev pub StandsFor : Content → Place → List (List ℕ) → Type 0
StandsFor content place path = (address : ℕ) → verdict_of content address path ≡ place_verdict content place address

-- one of the places stands for a path
pub record HasPlaceFor (content : Content) (places : List Place) (path : List (List ℕ)) : Type 0 where
  pub place : Place
  pub listed : Contains places place
  pub stands : StandsFor content place path

-- a place stands for a path of the scope
pub record HasPathFor (content : Content) (dir : List (List ℕ)) (below : Bool) (place : Place) : Type 0 where
  pub path : List (List ℕ)
  pub inside : is_in_scope dir below path ≡ true
  pub stands : StandsFor content place path

-- Each path of the scope has a place, and each place has a path of the scope: nothing is left out, and nothing is told of what is
-- outside.
abbrev pub PlacesTellScope : Type 0
PlacesTellScope =
    (content : Content) (dir : List (List ℕ)) (below : Bool) (places : List Place) → ArePlacesIn content dir below places
    → ((path : List (List ℕ)) → is_in_scope dir below path ≡ true → HasPlaceFor content places path) × All (HasPathFor content dir below) places

-- what is found of an address for the paths of this file system that no line writes: lines with -alldirs alone list them
abbrev pub found_elsewhere : {A : Type 0} → Rule A → Content → Option ℕ → ℕ → A
found_elsewhere rule content None address = rule.nowhere address
found_elsewhere rule content (Some fs) address = rule.among (record { 0 = fs }) (λ row. row.entry.alldirs) (rows_of content fs) address

-- what is found of an address at a place
abbrev pub found_of : {A : Type 0} → Rule A → Content → Place → ℕ → A
found_of rule content (Directory path) address = found_at rule content path address
found_of rule content (Others mount) address = found_elsewhere rule content (fs_of content.table mount) address

-- a place, and what is found there
pub record PlaceFound (A : Type 0) : Type 0 where
  pub place : Place
  pub ranges : List (Run A)

-- the same by value
abbrev pub place_found : {T A : Type 0} → (T → A) → KeptSection T → PlaceFound A
place_found meaning section = record { place = place_of section.place; ranges = map (run_value meaning) section.ranges }

-- a place with verdicts
abbrev pub Section : Type 0
Section = KeptSection Verdict

abbrev pub PlaceBreaches : Type 0
PlaceBreaches = PlaceFound (Result Grant Denial)

abbrev pub section_value : KeptSection Verdict → PlaceFound (Result Grant Denial)
section_value section = record { place = place_of section.place; ranges = map range_value section.ranges }

-- all that is found at the place, and for whom
abbrev pub AreFoundAt : {A : Type 0} → Rule (Option A) → Content → PlaceFound A → Type 0
AreFoundAt rule content found = AreRunsWithValue (found_of rule content found.place) found.ranges

-- something is found at the place
abbrev pub has_some : {A : Type 0} → PlaceFound A → Bool
has_some found = not (length found.ranges == 0)

-- Of what is found at the places of a directory, and if asked of all below it, the places at which something is.
pub record AreFoundIn {A : Type 0} (rule : Rule (Option A)) (content : Content) (dir : List (List ℕ)) (below : Bool) (sections : List (PlaceFound A)) : Type 0 where
  pub found : List (PlaceFound A)
  pub places : ArePlacesIn content dir below (map (λ one. one.place) found)
  pub each : All (AreFoundAt rule content) found
  pub are : sections ≡ filter has_some found

-- There is no section exactly if nothing is found at any address, of any path of the scope.
abbrev pub NoSectionIsNothingFound : Type 0 → Type 0
NoSectionIsNothingFound A =
    (rule : Rule (Option A)) (content : Content) (dir : List (List ℕ)) (below : Bool) (sections : List (PlaceFound A))
    → AsksThoseThatMatch rule → AreFoundIn rule content dir below sections
    → (sections ≡ []) ↔ ((address : ℕ) (path : List (List ℕ)) → address < 2 ^ 32 → is_in_scope dir below path ≡ true → found_at rule content path address ≡ None)
