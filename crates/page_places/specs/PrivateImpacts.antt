-- What the private contracts of impacts cite.
use Rattle.std.specs.Prelude.{◌≡◌, All, List, map}
use Rattle.std.specs.List.{flat_map}
use Rattle.desk_policy.specs.Policy.{Content}
use Rattle.desk_impact.specs.Places.{Place}
use Rattle.page_places.specs.Changes.{IsImpactAt, PlaceChange, PlaceImpact, changes_at}

-- all that changes at these places
pub record AreAllAt (before after : Content) (places : List Place) (rows : List PlaceChange) : Type 0 where
  pub found : List PlaceImpact
  pub places_are : map (λ one. one.place) found ≡ places
  pub impacts : All (IsImpactAt before after) found
  pub are : rows ≡ flat_map changes_at found
