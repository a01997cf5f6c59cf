-- Places stand in one order, and what is found at them is found in one way.
use Rattle.std.proofs.Common.{◌≡◌, ℕ, ◌∙◌, true, List, [], Option, ap, flat_map, subst, sym}
use Rattle.std.specs.Prelude.{Result, filter}
use Rattle.desk_policy.specs.Policy.{Content}
use Rattle.desk_policy.specs.Verdict.{Grant}
use Rattle.desk_policy.specs.declared.verdict.Denial.{Denial}
use Rattle.desk_who.specs.Runs.{AreRuns, AreRunsWithValue, Run, RunsAreUnique, RunsWithValueAreUnique}
use Rattle.desk_who.specs.Searching.{Rule}
use Rattle.desk_impact.specs.Places.{Place, all_written, place_verdict, places_at}
use Rattle.desk_impact.specs.Sections.{AreFoundAt, AreFoundIn, ArePlacesBelow, PlaceBreaches, PlaceFound, found_of, has_some, roots_below}
use Rattle.page_data.specs.Opening.{opening_rule}
use Rattle.page_data.specs.Sections.{AreSections, AreVerdictsAt}
use Rattle.page_data.specs.Unique.{PlacesAreUnique}
use Rattle.page_data.specs.declared.opening.Opening.{Opening}
use Rattle.page_data.proofs.OneOrder.{each_one, one_in_order}

abbrev Path : Type 0
Path = List (List ℕ)

one_below : (content : Content) (dir : Path) (places others : List Place) → ArePlacesBelow content dir places → ArePlacesBelow content dir others → places ≡ others
one_below content dir places others are its =
    are.are
    ∙ ap (λ (roots : List Path). flat_map (places_at roots are.dirs) roots) (one_in_order (roots_below content dir) are.roots its.roots are.roots_are its.roots_are)
    ∙ ap (λ (dirs : List Path). flat_map (places_at its.roots dirs) its.roots) (one_in_order (all_written content) are.dirs its.dirs are.dirs_are its.dirs_are)
    ∙ sym its.are

module _ {A : Type 0} where
  abbrev place_in : PlaceFound A → Place
  place_in found = found.place

  abbrev found_at : Place → List (Run A) → PlaceFound A
  found_at place ranges = record { place = place; ranges = ranges }

  same_found : (found other : PlaceFound A) → found.place ≡ other.place → found.ranges ≡ other.ranges → found ≡ other
  same_found found other place ranges = ap (λ (p : Place). found_at p found.ranges) place ∙ ap (λ (runs : List (Run A)). found_at other.place runs) ranges

-- ---- all verdicts at each place
module _ (unique : RunsAreUnique (Result Grant Denial)) (content : Content) where
  one_section : (section other : PlaceBreaches) → place_in section ≡ place_in other → AreVerdictsAt content section → AreVerdictsAt content other → section ≡ other
  one_section section other same are its =
      same_found section other same
      (sym (unique (λ address. place_verdict content section.place address) section.ranges other.ranges are
      (subst (λ (place : Place). AreRuns (λ address. place_verdict content place address) other.ranges) (sym same) its)))

  pub one_list_of_sections : (sections others : List PlaceBreaches) → AreSections content sections → AreSections content others → sections ≡ others
  one_list_of_sections sections others are its =
      each_one place_in (AreVerdictsAt content) one_section sections others (one_below content [] _ _ are.places its.places) are.verdicts its.verdicts

-- ---- what is found by a rule
module _ {A : Type 0} (unique : RunsWithValueAreUnique A) (rule : Rule (Option A)) (content : Content) where
  one_found : (found other : PlaceFound A) → place_in found ≡ place_in other → AreFoundAt rule content found → AreFoundAt rule content other → found ≡ other
  one_found found other same are its =
      same_found found other same
      (sym (unique (found_of rule content found.place) found.ranges other.ranges are
      (subst (λ (place : Place). AreRunsWithValue (found_of rule content place) other.ranges) (sym same) its)))

  one_search : (dir : Path) (sections others : List (PlaceFound A)) → AreFoundIn rule content dir true sections → AreFoundIn rule content dir true others → sections ≡ others
  one_search dir sections others are its =
      are.are
      ∙ ap (λ (found : List (PlaceFound A)). filter has_some found)
      (each_one place_in (AreFoundAt rule content) one_found are.found its.found (one_below content dir _ _ are.places its.places) are.each its.each)
      ∙ sym its.are

pub places_are_unique : RunsAreUnique (Result Grant Denial) → RunsWithValueAreUnique Opening → PlacesAreUnique
places_are_unique unique with_value = record {
  order = one_in_order;
  places = one_below;
  sections = one_list_of_sections unique;
  openings = λ content. one_search with_value opening_rule content [];
}
