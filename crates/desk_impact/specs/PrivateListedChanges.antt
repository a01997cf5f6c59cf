-- What the private contracts of the listed changes cite.
use Rattle.std.specs.Prelude.{◌≡◌, All, Bool, List, [], None, Option, Some, false, map, true}
use Rattle.std.specs.Bool.{Decides}
use Rattle.desk_tables.specs.declared.filesystems.FsId.{FsId}
use Rattle.desk_tables.specs.declared.filesystems.Mount.{Mount}
use Rattle.desk_policy.specs.Policy.{Content}
use Rattle.desk_who.specs.Runs.{Run}
use Rattle.desk_impact.specs.Impact.{Matters, TwoVerdicts}
use Rattle.desk_impact.specs.ListedChanges.{AreListedAt, ListedChange, ListedPlace}
use Rattle.desk_impact.specs.Places.{Place}
use Rattle.desk_impact.specs.PrivatePlaces.{is_place_in}

-- the place is in the file system that alone is asked about, if there is one
abbrev pub is_asked : List Mount → Option FsId → Place → Bool
is_asked table None place = true
is_asked table (Some fs) place = is_place_in table fs.0 place

-- what changes at a place that is asked about, or nothing
pub record IsListedAmong (before after : Content) (only : Option FsId) (found : ListedPlace) : Type 0 where
  pub asked : is_asked before.table only found.place ≡ true → AreListedAt before after found
  pub silent : is_asked before.table only found.place ≡ false → found.changes ≡ []

-- the same of each of these places
pub record AreListedAmong (before after : Content) (only : Option FsId) (places : List Place) (found : List ListedPlace) : Type 0 where
  pub places_are : map (λ one. one.place) found ≡ places
  pub changes : All (IsListedAmong before after only) found

-- the changes, and which of them matter
pub record AreMarked (changes : List (Run TwoVerdicts)) (listed : List ListedChange) : Type 0 where
  pub changes_are : map (λ one. one.change) listed ≡ changes
  pub matter : All (λ one. Decides one.matters (Matters one.change.value)) listed
