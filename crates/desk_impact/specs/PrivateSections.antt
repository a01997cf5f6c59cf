-- What the private contracts of sections cite.
use Rattle.std.specs.Prelude.{◌≡◌, All, List, Option, filter, map}
use Rattle.desk_policy.specs.Policy.{Content}
use Rattle.desk_who.specs.Searching.{Rule}
use Rattle.desk_impact.specs.Places.{Place}
use Rattle.desk_impact.specs.Sections.{AreFoundAt, PlaceFound, has_some}

-- Of what is found at these places, the places at which something is.
pub record AreFoundAmong {A : Type 0} (rule : Rule (Option A)) (content : Content) (places : List Place) (sections : List (PlaceFound A)) : Type 0 where
  pub found : List (PlaceFound A)
  pub places_are : map (λ one. one.place) found ≡ places
  pub each : All (AreFoundAt rule content) found
  pub are : sections ≡ filter has_some found
