-- The groups of directories of a file system, as parts for the page. (this project's own)
use Rattle.std.specs.Prelude.{◌≡◌, ℕ, All, Bool, true, false, List, drop, filter, length, map, not, take}
use Rattle.std.specs.List.{flat_map, list_any}
use Rattle.std.specs.String.{string_bytes}
use Rattle.desk_impact.specs.Places.{Directory, Others, Place}
use Rattle.desk_impact.specs.Sections.{PlaceBreaches, PlaceFound}
use Rattle.page_data.specs.declared.opening.Opening.{Opening}
use Rattle.page_data.specs.Groups.{AreSectionGroups, group_value}
use Rattle.page_data.specs.Tables.{IsTableOf, TableValue, table_value}
use Rattle.page_places.specs.declared.groups.GroupPart.{GroupPart}
use Rattle.page_places.specs.declared.openings.PlaceOpening.{PlaceOpening}
use Rattle.page_places.specs.Maps.{AreMapsOfGroup, are_drawn}
use Rattle.page_places.specs.ListedOpenings.{AreOpeningsOf}
use Rattle.page_places.specs.declared.listing.ListedGroups.{ListedGroups}

-- so many groups are listed
abbrev pub most_listed : ℕ
most_listed = 100

-- a place is a directory, or it stands for the other directories
abbrev pub is_directory : Place → Bool
is_directory (Directory path) = true
is_directory (Others mount) = false

abbrev pub is_others : Place → Bool
is_others place = not (is_directory place)

-- how many directories are among places, and whether the other directories are
abbrev pub directories_among : List Place → ℕ
directories_among places = length (filter is_directory places)

abbrev pub has_others : List Place → Bool
has_others places = list_any is_others places

-- the places of groups
abbrev pub places_of : List PlaceBreaches → List Place
places_of sections = map (λ section. section.place) sections

abbrev pub places_in : List (List PlaceBreaches) → List Place
places_in groups = flat_map places_of groups

-- a group as it is listed: its places, its table, its maps, and what the server grants of that which is denied
pub record PartValue : Type 0 where
  pub sections : List PlaceBreaches
  pub table : TableValue
  pub maps : List ℕ
  pub openings : List PlaceOpening

abbrev pub part_value : GroupPart → PartValue
part_value part = record { sections = group_value part.group; table = table_value part.table; maps = string_bytes part.maps; openings = part.openings }

-- It has its own table; its own maps, if groups have maps; and what the server grants of that which is denied, given where it does.
pub record IsPart (drawn : Bool) (openings : List (PlaceFound Opening)) (part : PartValue) : Type 0 where
  pub table : IsTableOf part.sections part.table
  pub maps : AreMapsOfGroup drawn part.sections part.maps
  pub opened : AreOpeningsOf openings part.sections part.openings

-- groups as they are listed, how many there are, and what is left out
pub record ListedValue : Type 0 where
  pub groups : List PartValue
  pub count : ℕ
  pub unlisted : ℕ
  pub has_unlisted_others : Bool

abbrev pub listed_value : ListedGroups → ListedValue
listed_value listed = record {
  groups = map part_value listed.groups;
  count = listed.count;
  unlisted = listed.unlisted;
  has_unlisted_others = listed.has_unlisted_others;
}

-- Of these groups the first hundred are listed, in their order, and of the others the directories are counted. No number counts the
-- other directories of a file system: whether they are left out is told by itself.
pub record AreListed (openings : List (PlaceFound Opening)) (groups : List (List PlaceBreaches)) (value : ListedValue) : Type 0 where
  pub listed : map (λ part. part.sections) value.groups ≡ take most_listed groups
  pub parts : All (IsPart (are_drawn (length groups)) openings) value.groups
  pub count : value.count ≡ length groups
  pub unlisted : value.unlisted ≡ directories_among (places_in (drop most_listed groups))
  pub others : value.has_unlisted_others ≡ has_others (places_in (drop most_listed groups))

-- The places of a file system in groups of those that are granted alike, as they are listed.
pub record AreListedGroups (openings : List (PlaceFound Opening)) (sections : List PlaceBreaches) (value : ListedValue) : Type 0 where
  pub groups : List (List PlaceBreaches)
  pub are : AreSectionGroups sections groups
  pub are_listed : AreListed openings groups value
