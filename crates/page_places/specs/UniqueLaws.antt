-- What is told of the places of a file system is told in one way. (this project's own)
use Rattle.std.specs.Prelude.{◌≡◌, ℕ, List, map}
use Rattle.desk_policy.specs.Policy.{Content}
use Rattle.desk_impact.specs.Places.{Place}
use Rattle.desk_impact.specs.Sections.{PlaceBreaches, PlaceFound}
use Rattle.page_data.specs.Laws.{TellVerdicts}
use Rattle.page_data.specs.declared.opening.Opening.{Opening}
use Rattle.page_places.specs.ChangeRows.{changes_block}
use Rattle.page_places.specs.Changes.{AreChangesIn, ChangesValue, row_value}
use Rattle.page_places.specs.Directories.{ArePlacesOf}
use Rattle.page_places.specs.Groups.{groups_text}
use Rattle.page_places.specs.ListedGroups.{AreListedGroups, listed_value}
use Rattle.page_places.specs.Widening.{AreSoManyIn}
use Rattle.page_places.specs.declared.change_rows.ChangeRow.{ChangeRow}
use Rattle.page_places.specs.declared.listing.ListedGroups.{ListedGroups}

-- A file system has one list of places by two policies; what changes there is one list of changes, of which so many are told and so many
-- are not; by one number of them clients may do more; and the text of the changes goes by their values.
pub record ChangesAreToldInOneWay : Type 0 where
  pub places : (before after : Content) (fs : ℕ) (places others : List Place) → ArePlacesOf before after fs places → ArePlacesOf before after fs others
      → places ≡ others
  pub changes : (before after : Content) (fs : ℕ) (value other : ChangesValue) → AreChangesIn before after fs value → AreChangesIn before after fs other
      → value ≡ other
  pub widening : (before after : Content) (fs count other : ℕ) → AreSoManyIn before after fs count → AreSoManyIn before after fs other → count ≡ other
  pub text : (rows others : List ChangeRow) (silent : ℕ) → map row_value rows ≡ map row_value others → changes_block rows silent ≡ changes_block others silent

-- of two lists of groups the same is told
pub record AreToldAlike (listed other : ListedGroups) : Type 0 where
  pub text : (fs : ℕ) → groups_text fs listed.groups ≡ groups_text fs other.groups
  pub count : listed.count ≡ other.count
  pub unlisted : listed.unlisted ≡ other.unlisted
  pub others : listed.has_unlisted_others ≡ other.has_unlisted_others

-- The groups of a file system, of which all verdicts are given, are told in one way.
abbrev pub GroupsAreToldInOneWay : Type 0
GroupsAreToldInOneWay =
    (openings : List (PlaceFound Opening)) (sections : List PlaceBreaches) (listed other : ListedGroups) → TellVerdicts sections
    → AreListedGroups openings sections (listed_value listed) → AreListedGroups openings sections (listed_value other) → AreToldAlike listed other

-- So both are.
pub record PlacesAreToldInOneWay : Type 0 where
  pub changes : ChangesAreToldInOneWay
  pub groups : GroupsAreToldInOneWay
