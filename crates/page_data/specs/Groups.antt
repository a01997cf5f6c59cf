-- Directories that are granted alike, in groups. (this project's own)
use Rattle.std.specs.Prelude.{◌≡◌, ℕ, ◌<◌, ◌^◌, ◌∷◌, [], not, Bool, List, Some, Result, filter, map, slice_get}
use Rattle.std.specs.Bool.{Decides}
use Rattle.std.specs.Result.{is_ok, result_ok}
use Rattle.desk_policy.specs.Policy.{Content}
use Rattle.desk_policy.specs.Verdict.{Grant}
use Rattle.desk_policy.specs.declared.verdict.Denial.{Denial}
use Rattle.desk_who.specs.Runs.{Run}
use Rattle.desk_impact.specs.Places.{Place, place_verdict}
use Rattle.desk_impact.specs.Sections.{PlaceBreaches, section_value}
use Rattle.page_data.specs.declared.groups.Group.{Group}

-- Two places are granted alike: at each address both by one line on the same terms, or neither.
abbrev pub AreGrantedAlike : Content → Place → Place → Type 0
AreGrantedAlike content place other = (address : ℕ) → address < 2 ^ 32 → result_ok (place_verdict content other address) ≡ result_ok (place_verdict content place address)

-- In groups: the first of the values with all that are alike are the first group, in their order, and the others make the other groups.
abbrev pub AreGrouped : {A : Type 0} → (A → A → Bool) → List A → List (List A) → Type 0
AreGrouped alike values [] = values ≡ []
AreGrouped alike values ([] ∷ groups) = ⊥
AreGrouped alike values ((first ∷ others) ∷ groups) =
    (slice_get values 0 ≡ Some first) × (first ∷ others ≡ filter (alike first) values) × AreGrouped alike (filter (λ value. not (alike first value)) values) groups

-- The places in groups of those that are granted alike.
pub record AreGroups (content : Content) (places : List Place) (groups : List (List Place)) : Type 0 where
  pub alike : Place → Place → Bool
  pub decides : (place other : Place) → Decides (alike place other) (AreGrantedAlike content place other)
  pub are : AreGrouped alike places groups

-- those of the ranges at which a mount is granted
abbrev pub granted_ranges : List (Run (Result Grant Denial)) → List (Run (Result Grant Denial))
granted_ranges ranges = filter (λ range. is_ok range.value) ranges

-- Sections in groups of those whose granted ranges are the same.
pub record AreSectionGroups (sections : List PlaceBreaches) (groups : List (List PlaceBreaches)) : Type 0 where
  pub alike : PlaceBreaches → PlaceBreaches → Bool
  pub decides : (section other : PlaceBreaches) → Decides (alike section other) (granted_ranges other.ranges ≡ granted_ranges section.ranges)
  pub are : AreGrouped alike sections groups

-- a group by value
abbrev pub group_value : Group → List PlaceBreaches
group_value group = map section_value group.sections
