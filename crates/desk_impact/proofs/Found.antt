-- What is found at each place, and at all.
use Rattle.std.proofs.Common.{◌≡◌, ℕ, ◌+◌, ◌<◌, ◌≤◌, Bool, List, [], ◌∷◌, ◌++◌, get_or, length, map, refl, sym, take, ap, ◌∙◌, subst}
use Rattle.std.specs.Prelude.{Option, filter}
use Rattle.std.proofs.lemmas.List.{map-append, take_all, take_more}
use Rattle.std.proofs.lemmas.List.Elements.{All-nil, All-push, filter-append}
use Rattle.desk_policy.specs.Policy.{Content}
use Rattle.desk_who.specs.Runs.{AreRunsWithValue, Run}
use Rattle.desk_who.specs.Searching.{AsksThoseThatMatch, Rule, found_at}
use Rattle.desk_who.proofs.Kept.{same_runs}
use Rattle.desk_impact.specs.Places.{Others, Place, place_of, taken_by}
use Rattle.desk_impact.specs.PrivatePlaces.{IsFree}
use Rattle.desk_impact.specs.PrivateSections.{AreFoundAmong}
use Rattle.desk_impact.specs.Sections.{AreFoundAt, AreFoundIn, ArePlacesIn, PlaceFound, found_of, has_some}
use Rattle.desk_impact.specs.declared.places.Place.{Place as LentPlace}
use Rattle.desk_impact.proofs.FoundElsewhere.{as_others}
use Rattle.desk_impact.proofs.Reporting.{free_is_home}
use Rattle.desk_impact.proofs.Same.{Path}

-- what is found for a free path is found for all others
pub found_of_others : {A : Type 0} (rule : Rule (Option A)) → AsksThoseThatMatch rule → (content : Content) (root path : Path) (runs : List (Run A)) → IsFree root (taken_by content content) path
    → AreRunsWithValue (found_at rule content path) runs → AreRunsWithValue (found_of rule content (Others root)) runs
found_of_others rule asks content root path runs free are =
    let own = free_is_home content content root path free in
    same_runs (found_at rule content path) (found_of rule content (Others root)) runs (λ address. as_others rule asks content path address root own.0 own.1) are

-- ---- the sections
-- the section of a place is added, if something is found there
pub record AddsSection {A : Type 0} (rule : Rule (Option A)) (content : Content) (place : Place) (old new : List (PlaceFound A)) : Type 0 where
  pub found : PlaceFound A
  pub place_is : found.place ≡ place
  pub runs : AreFoundAt rule content found
  pub added : new ≡ old ++ filter has_some (found ∷ [])

module _ {A : Type 0} (rule : Rule (Option A)) (content : Content) where
  pub none_yet : (sections : List (PlaceFound A)) → sections ≡ [] → AreFoundAmong rule content [] sections
  none_yet sections empty = record { found = []; places_are = refl; each = All-nil (AreFoundAt rule content); are = empty }

  one_more : (places : List Place) (place : Place) (old new : List (PlaceFound A)) → AreFoundAmong rule content places old → AddsSection rule content place old new
      → AreFoundAmong rule content (places ++ place ∷ []) new
  one_more places place old new so_far one = record {
    found = so_far.found ++ one.found ∷ [];
    places_are = map-append (λ (f : PlaceFound A). f.place) so_far.found (one.found ∷ []) ∙ ap (λ ps. ps ++ one.found.place ∷ []) so_far.places_are ∙ ap (λ (p : Place). places ++ p ∷ []) one.place_is;
    each = All-push (AreFoundAt rule content) so_far.found one.found so_far.each one.runs;
    are = one.added ∙ ap (λ ss. ss ++ filter has_some (one.found ∷ [])) so_far.are ∙ sym (filter-append has_some so_far.found (one.found ∷ []));
  }

  pub next : (items : List LentPlace) (i : ℕ) (item : LentPlace) → i < length items → item ≡ get_or items i item → (old new : List (PlaceFound A))
      → AreFoundAmong rule content (map place_of (take i items)) old → AddsSection rule content (place_of item) old new → AreFoundAmong rule content (map place_of (take (i + 1) items)) new
  next items i item below is old new so_far one =
      let more : map place_of (take (i + 1) items) ≡ map place_of (take i items) ++ place_of item ∷ [] =
      ap (map place_of) (take_more items i item below ∙ ap (λ (p : LentPlace). take i items ++ p ∷ []) (sym is)) ∙ map-append place_of (take i items) (item ∷ []) in
      subst (λ ps. AreFoundAmong rule content ps new) (sym more) (one_more (map place_of (take i items)) (place_of item) old new so_far one)

  -- at all places of a directory, and if asked of all below it
  pub all : (dir : Path) (below : Bool) (items : List LentPlace) (i : ℕ) (sections : List (PlaceFound A)) → ArePlacesIn content dir below (map place_of items) → length items ≤ i
      → AreFoundAmong rule content (map place_of (take i items)) sections → AreFoundIn rule content dir below sections
  all dir below items i sections places over so_far = record {
    found = so_far.found;
    places = subst (ArePlacesIn content dir below) (sym (so_far.places_are ∙ ap (map place_of) (take_all i items over))) places;
    each = so_far.each;
    are = so_far.are;
  }
