-- The maps of a group of directories. (this project's own)
use Rattle.std.specs.Prelude.{◌≡◌, ℕ, ◌&&◌, Bool, true, false, List, [], Result, nat_le, nat_lt}
use Rattle.std.specs.List.{list_any}
use Rattle.std.specs.Result.{is_ok}
use Rattle.desk_policy.specs.Verdict.{Grant}
use Rattle.desk_policy.specs.declared.verdict.Denial.{Denial}
use Rattle.desk_who.specs.Runs.{Run}
use Rattle.desk_impact.specs.Sections.{PlaceBreaches}
use Rattle.page_data.specs.Classes.{AreClassesFrom}
use Rattle.page_data.specs.Tables.{ranges_at_first}
use Rattle.page_data.specs.declared.class.Class.{Class}
use Rattle.page_maps.specs.Figures.{GainsGroupMaps}

-- each of so many groups may have maps of its own: there are more than one, and not too many
abbrev pub are_drawn : ℕ → Bool
are_drawn count = nat_lt 1 count && nat_le count 12

-- some verdict at a place grants
abbrev pub grants_some : List (Run (Result Grant Denial)) → Bool
grants_some ranges = list_any (λ range. is_ok range.value) ranges

-- the maps of what the verdicts at a place come to
pub record AreMapsOf (ranges : List (Run (Result Grant Denial))) (maps : List ℕ) : Type 0 where
  pub runs : List (Run Class)
  pub are : AreClassesFrom ranges runs
  pub drawn : GainsGroupMaps runs [] maps

-- those, or none
abbrev pub AreMapsIf : Bool → List (Run (Result Grant Denial)) → List ℕ → Type 0
AreMapsIf true ranges maps = AreMapsOf ranges maps
AreMapsIf false ranges maps = maps ≡ []

-- The maps of a group are those of its first place: none, if groups have no maps, or the group grants nothing.
abbrev pub AreMapsOfGroup : Bool → List PlaceBreaches → List ℕ → Type 0
AreMapsOfGroup drawn sections maps = AreMapsIf (drawn && grants_some (ranges_at_first sections)) (ranges_at_first sections) maps
