-- What another policy would change, listed place by place. (this project's own)
use Rattle.std.specs.Prelude.{All, Bool, List, map}
use Rattle.std.specs.Bool.{Decides}
use Rattle.desk_policy.specs.Policy.{Content}
use Rattle.desk_who.specs.Runs.{Run}
use Rattle.desk_impact.specs.Impact.{IsImpact, Matters, TwoVerdicts, change_value}
use Rattle.desk_impact.specs.Places.{ArePlaces, Place, place_of, place_verdicts}
use Rattle.desk_impact.specs.declared.listed_changes.ListedChange.{ListedChange as KeptChange}
use Rattle.desk_impact.specs.declared.listed_changes.ListedPlace.{ListedPlace as KeptPlace}

-- a change, and whether it matters to a client
pub record ListedChange : Type 0 where
  pub change : Run TwoVerdicts
  pub matters : Bool

-- what changes at a place
pub record ListedPlace : Type 0 where
  pub place : Place
  pub changes : List ListedChange

-- the same by value
abbrev pub listed_change : KeptChange → ListedChange
listed_change kept = record { change = change_value kept.change; matters = kept.matters }

abbrev pub listed_place : KeptPlace → ListedPlace
listed_place kept = record { place = place_of kept.place; changes = map listed_change kept.changes }

-- it is what changes there between these policies, and just those that matter are so marked
pub record AreListedAt (before after : Content) (found : ListedPlace) : Type 0 where
  pub impact : IsImpact before after (place_verdicts before after found.place) (map (λ one. one.change) found.changes)
  pub matter : All (λ one. Decides one.matters (Matters one.change.value)) found.changes

-- The list tells what changes at each place between these policies.
pub record AreListed (before after : Content) (found : List ListedPlace) : Type 0 where
  pub places : ArePlaces before after (map (λ one. one.place) found)
  pub changes : All (AreListedAt before after) found
