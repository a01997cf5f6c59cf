-- What the private contracts of changes cite.
use Rattle.std.specs.Prelude.{◌≡◌, ℕ, ◌+◌, All, List, length, map}
use Rattle.std.specs.List.{flat_map}
use Rattle.desk_policy.specs.Policy.{Content}
use Rattle.desk_impact.specs.Impact.{AreThoseThat, Matters}
use Rattle.page_places.specs.Changes.{ChangesValue, IsImpactAt, PlaceChange, PlaceImpact, changes_at}
use Rattle.page_places.specs.Directories.{ArePlacesOf}

-- all that changes at the places of a file system
pub record AreAllChanges (before after : Content) (fs : ℕ) (rows : List PlaceChange) : Type 0 where
  pub found : List PlaceImpact
  pub places : ArePlacesOf before after fs (map (λ one. one.place) found)
  pub impacts : All (IsImpactAt before after) found
  pub are : rows ≡ flat_map changes_at found

-- those of the changes that matter are told, and the others are counted
pub record AreTold (all : List PlaceChange) (value : ChangesValue) : Type 0 where
  pub rows : AreThoseThat (λ one. Matters one.change.value) all value.rows
  pub silent : value.silent + length value.rows ≡ length all
