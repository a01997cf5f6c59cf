-- What the parts of a file system come to. (this project's own)
use Rattle.std.specs.Prelude.{◌≡◌, ℕ, ◌+◌, ◌<◌, ◌||◌, List, length, map}
use Rattle.desk_tables.specs.FileSystems.{AreAscending}
use Rattle.desk_policy.specs.Policy.{Content, with_lines_of}
use Rattle.desk_impact.specs.Sections.{PlaceBreaches, PlaceFound}
use Rattle.page_data.specs.declared.opening.Opening.{Opening}
use Rattle.page_places.specs.Changes.{AreChangesIn, ChangesValue}
use Rattle.page_places.specs.ListedGroups.{AreListedGroups, ListedValue, directories_among, has_others, places_in, places_of}

-- the places of the groups that are listed
abbrev pub listed_places : ListedValue → List (List PlaceBreaches)
listed_places value = map (λ part. part.sections) value.groups

-- the directories that are listed, and those that are not, are all; and so it is with the other directories
pub record AddUp (sections : List PlaceBreaches) (value : ListedValue) : Type 0 where
  pub directories : directories_among (places_in (listed_places value)) + value.unlisted ≡ directories_among (places_of sections)
  pub others : (has_others (places_in (listed_places value)) || value.has_unlisted_others) ≡ has_others (places_of sections)

-- No place of a file system is left out: it is in a group that is listed, or counted.
abbrev pub ListedAddUp : Type 0
ListedAddUp =
    (openings : List (PlaceFound Opening)) (sections : List PlaceBreaches) (value : ListedValue) → AreListedGroups openings sections value → AddUp sections value

-- What lines would change at the places of a file system is what the whole policy with them would change there.
abbrev pub ChangesAreOfWhole : Type 0
ChangesAreOfWhole =
    (before lines : Content) (fs : ℕ) (value : ChangesValue) → fs < length before.rows → AreAscending before.table → lines.table ≡ before.table
    → AreChangesIn before lines fs value → AreChangesIn before (with_lines_of before fs lines) fs value
