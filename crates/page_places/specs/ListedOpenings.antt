-- What the server grants of that which is denied at some places. (this project's own, over mountd(8))
use Rattle.std.specs.Prelude.{◌≡◌, ℕ, ◌∷◌, ◌==◌, [], Bool, false, List, if◌then◌else◌, map}
use Rattle.std.specs.Cmp.Lexicographic.{slice_cmp}
use Rattle.std.specs.List.{dedup, flat_map, list_any}
use Rattle.std.specs.List.Sorted.{IsPermutation, IsSortedByKey, IsStableByKey}
use Rattle.std.specs.Ordering.{nat_cmp}
use Rattle.desk_text.specs.Address.{number_of}
use Rattle.desk_text.specs.Path.{same_path}
use Rattle.desk_who.specs.Runs.{Run}
use Rattle.desk_impact.specs.Places.{Directory, Others, Place}
use Rattle.desk_impact.specs.Sections.{PlaceBreaches, PlaceFound}
use Rattle.page_data.specs.declared.opening.Opening.{Opening}
use Rattle.page_places.specs.Openings.{OpeningValue, opening_value}
use Rattle.page_places.specs.declared.openings.PlaceOpening.{PlaceOpening}

-- two places are the same, and a place is one of these
abbrev pub same_place : Place → Place → Bool
same_place (Directory path) (Directory other) = same_path path other
same_place (Others mount) (Others other) = same_path mount other
same_place (Directory path) (Others other) = false
same_place (Others mount) (Directory other) = false

abbrev pub is_among : List PlaceBreaches → Place → Bool
is_among places place = list_any (λ one. same_place one.place place) places

-- what the server grants at a place to the first address of a range
abbrev pub opened_by : Place → Run Opening → OpeningValue
opened_by place run = record { place = place; address = run.first; denied = run.value.denied; line = run.value.line }

-- all of it at a place, if that is one of these; and of each place
abbrev pub opened_if : List PlaceBreaches → PlaceFound Opening → List OpeningValue
opened_if places section = if is_among places section.place then map (opened_by section.place) section.ranges else []

abbrev pub all_among : List PlaceBreaches → List (PlaceFound Opening) → List OpeningValue
all_among places openings = flat_map (opened_if places) openings

-- the order: by the lines that denials name, and of one by the addresses
abbrev pub order_of : PlaceOpening → List ℕ
order_of one = one.denied ∷ number_of one.address ∷ []

abbrev pub same_denied : PlaceOpening → PlaceOpening → Bool
same_denied one other = one.denied == other.denied

-- Of what the server grants at these places, the first for each line that a denial names: that to the least address (of several places,
-- the first of them).
pub record AreOpeningsOf (openings : List (PlaceFound Opening)) (places : List PlaceBreaches) (found : List PlaceOpening) : Type 0 where
  pub all : List PlaceOpening
  pub are_all : map opening_value all ≡ all_among places openings
  pub sorted : List PlaceOpening
  pub just : IsPermutation all sorted
  pub order : IsSortedByKey order_of (slice_cmp nat_cmp) sorted
  pub stable : IsStableByKey order_of (slice_cmp nat_cmp) all sorted
  pub are : found ≡ dedup same_denied sorted
