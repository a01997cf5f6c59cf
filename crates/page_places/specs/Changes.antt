-- What lines that are proposed for a file system would change for its clients. (this project's own)
use Rattle.std.specs.Prelude.{◌≡◌, ℕ, ◌+◌, All, List, length, map}
use Rattle.std.specs.List.{flat_map}
use Rattle.desk_text.specs.Address.{number_of}
use Rattle.desk_policy.specs.Policy.{Content}
use Rattle.desk_policy.specs.Verdict.{verdict_result}
use Rattle.desk_who.specs.Runs.{Run}
use Rattle.desk_impact.specs.Impact.{AreThoseThat, IsImpact, Matters, TwoVerdicts}
use Rattle.desk_impact.specs.Places.{Place, place_of, place_verdicts}
use Rattle.page_places.specs.declared.change_rows.ChangeRow.{ChangeRow}
use Rattle.page_places.specs.Directories.{ArePlacesOf}
use Rattle.page_places.specs.declared.changes.Changes.{Changes}

-- what changes at a place
pub record PlaceImpact : Type 0 where
  pub place : Place
  pub changes : List (Run TwoVerdicts)

abbrev pub IsImpactAt : Content → Content → PlaceImpact → Type 0
IsImpactAt before after found = IsImpact before after (place_verdicts before after found.place) found.changes

-- a range of addresses at which the verdict on a place changes
pub record PlaceChange : Type 0 where
  pub place : Place
  pub change : Run TwoVerdicts

abbrev pub each_with : Place → List (Run TwoVerdicts) → List PlaceChange
each_with place changes = map (λ change. record { place = place; change = change }) changes

abbrev pub changes_at : PlaceImpact → List PlaceChange
changes_at found = each_with found.place found.changes

-- a row by value
abbrev pub row_value : ChangeRow → PlaceChange
row_value row = record {
  place = place_of row.place;
  change = record {
    first = number_of row.first;
    last = number_of row.last;
    value = record { before = verdict_result row.before; after = verdict_result row.after };
  };
}

-- the changes that are told, and how many are not
pub record ChangesValue : Type 0 where
  pub rows : List PlaceChange
  pub silent : ℕ

abbrev pub changes_value : Changes → ChangesValue
changes_value changes = record { rows = map row_value changes.rows; silent = changes.silent }

-- What changes between two policies at the places of a file system: those of the changes that matter to a client are told, in the order
-- of the places and of the addresses; those of lines or reasons alone are counted.
pub record AreChangesIn (before after : Content) (fs : ℕ) (value : ChangesValue) : Type 0 where
  pub found : List PlaceImpact
  pub places : ArePlacesOf before after fs (map (λ one. one.place) found)
  pub impacts : All (IsImpactAt before after) found
  pub rows : AreThoseThat (λ one. Matters one.change.value) (flat_map changes_at found) value.rows
  pub silent : value.silent + length value.rows ≡ length (flat_map changes_at found)
