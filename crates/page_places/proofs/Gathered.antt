-- What is gathered place by place, with one more; and what is told of all.
use Rattle.std.proofs.Common.{◌≡◌, ◌<◌, ◌+◌, ◌++◌, ◌∙◌, ℕ, List, [], ◌∷◌, ap, get_or, length, map, refl, sym, take}
use Rattle.std.proofs.lemmas.List.{append_assoc, flat_map_more, map-append}
use Rattle.std.proofs.lemmas.List.Elements.{All-nil, All-push}
use Rattle.desk_policy.specs.Policy.{Content}
use Rattle.desk_who.specs.Runs.{Run}
use Rattle.desk_impact.specs.Impact.{IsImpact, TwoVerdicts}
use Rattle.desk_impact.specs.Places.{Place, place_verdicts}
use Rattle.page_data.proofs.Gathered.{take_next}
use Rattle.page_places.specs.Changes.{IsImpactAt, PlaceChange, PlaceImpact, changes_at, each_with}
use Rattle.page_places.specs.PrivateImpacts.{AreAllAt}

module _ {X Y : Type 0} (f : X → Y) (xs : List X) (i : ℕ) (x : X) (below : i < length xs) (is : x ≡ get_or xs i x) where
  pub more : map f (take (i + 1) xs) ≡ map f (take i xs) ++ f x ∷ []
  more = ap (map f) (take_next xs i x below is) ∙ map-append f (take i xs) (x ∷ [])

  -- values that are gathered by what they come to
  pub gathers : {B : Type 0} (g : B → Y) (first : List Y) (old new : List B) (b : B) → new ≡ old ++ b ∷ [] → g b ≡ f x → map g old ≡ first ++ map f (take i xs)
      → map g new ≡ first ++ map f (take (i + 1) xs)
  gathers g first old new b pushed same so_far =
      ap (map g) pushed ∙ map-append g old (b ∷ []) ∙ ap (λ y. map g old ++ y ∷ []) same ∙ ap (λ ys. ys ++ f x ∷ []) so_far
      ∙ append_assoc first (map f (take i xs)) (f x ∷ []) ∙ ap (λ ys. first ++ ys) (sym more)

-- ---- all places
pub none_at : (before after : Content) (rows : List PlaceChange) → rows ≡ [] → AreAllAt before after [] rows
none_at before after rows none = record { found = []; places_are = refl; impacts = All-nil (IsImpactAt before after); are = none }

pub one_more : (before after : Content) (places : List Place) (old new : List PlaceChange) (place : Place) (changes : List (Run TwoVerdicts)) → AreAllAt before after places old
    → IsImpact before after (place_verdicts before after place) changes → new ≡ old ++ each_with place changes → AreAllAt before after (places ++ place ∷ []) new
one_more before after places old new place changes so_far impact gained =
    let found : PlaceImpact = record { place = place; changes = changes } in
    record {
      found = so_far.found ++ found ∷ [];
      places_are = map-append (λ (f : PlaceImpact). f.place) so_far.found (found ∷ []) ∙ ap (λ (ps : List Place). ps ++ place ∷ []) so_far.places_are;
      impacts = All-push (IsImpactAt before after) so_far.found found so_far.impacts impact;
      are = gained ∙ ap (λ (rows : List PlaceChange). rows ++ changes_at found) so_far.are ∙ flat_map_more changes_at [] so_far.found found;
    }
