-- What lines change at the places of a file system is what the policy with them changes there.
use Rattle.std.proofs.Common.{◌≡◌, ◌<◌, ◌++◌, ◌∙◌, ℕ, All, Bool, List, [], Some, ap, arith, get_or, length, map, refl, subst, sym}
use Rattle.std.specs.Bool.{Decides}
use Rattle.std.proofs.lemmas.Bool.{eq-eqb}
use Rattle.std.proofs.lemmas.List.{get_or-map, get_or-set_same, length-map}
use Rattle.desk_tables.specs.FileSystems.{fs_of}
use Rattle.desk_policy.specs.Listings.{written}
use Rattle.desk_policy.specs.Policy.{Content, rows_of, with_lines_of}
use Rattle.desk_policy.specs.Verdict.{is_in}
use Rattle.desk_who.specs.Runs.{Run}
use Rattle.desk_impact.specs.Impact.{IsImpact, SayOtherwise, TwoVerdicts}
use Rattle.desk_impact.specs.Places.{AreInOrder, Place, place_verdict, place_verdicts}
use Rattle.desk_impact.specs.PrivatePlaces.{path_of}
use Rattle.desk_impact.proofs.OtherLines.{same_place, same_saying}
use Rattle.desk_impact.proofs.Reporting.{same_impact}
use Rattle.page_places.specs.Changes.{IsImpactAt, PlaceImpact}
use Rattle.page_places.specs.Directories.{own_dirs, own_of}
use Rattle.page_places.specs.ListedLaws.{ChangesAreOfWhole}
use Rattle.page_places.proofs.Homes.{mount_home, places_here}

module _ (before lines : Content) (fs : ℕ) (table : lines.table ≡ before.table) (within : fs < length before.rows) where
  abbrev whole : Content
  whole = with_lines_of before fs lines

  own : rows_of lines fs ≡ rows_of whole fs
  own = sym (get_or-set_same before.rows fs (rows_of lines fs) [] within)

  same_at : (place : Place) → fs_of before.table (path_of place) ≡ Some fs → (address : ℕ) → place_verdicts before lines place address ≡ place_verdicts before whole place address
  same_at place here address =
      ap (λ v. record { before = place_verdict before place address; after = v })
      (same_place whole lines fs table own place (ap (λ o. is_in o fs) here ∙ eq-eqb fs fs refl) address)

  same_tests : (test : Run TwoVerdicts → Bool) → ((run : Run TwoVerdicts) → Decides (test run) (SayOtherwise before lines run.value))
      → (run : Run TwoVerdicts) → Decides (test run) (SayOtherwise before whole run.value)
  same_tests test decides run =
      let d = decides run in
      let s = same_saying whole lines table run.value.after in (λ is e. d.0 is (s ∙ e), λ apart. d.1 (λ e. apart (sym s ∙ e)))

  same_changes : (verdicts : ℕ → TwoVerdicts) (changes : List (Run TwoVerdicts)) → IsImpact before lines verdicts changes → IsImpact before whole verdicts changes
  same_changes verdicts changes impact = record {
    whole = impact.whole;
    runs = impact.runs;
    chosen = record { test = impact.chosen.test; decides = same_tests impact.chosen.test impact.chosen.decides; are = impact.chosen.are };
  }

  same_impacts : (found : List PlaceImpact) → All (λ place. fs_of before.table (path_of place) ≡ Some fs) (map (λ (one : PlaceImpact). one.place) found) → All (IsImpactAt before lines) found → All (IsImpactAt before whole) found
  same_impacts found here impacts k d inside =
      let one = get_or found k d in
      let at : fs_of before.table (path_of one.place) ≡ Some fs =
      subst (λ (place : Place). fs_of before.table (path_of place) ≡ Some fs) (get_or-map (λ (f : PlaceImpact). f.place) found k d d.place inside)
      (here k d.place (omega (arith, inside, length-map found (λ (f : PlaceImpact). f.place)))) in
      same_changes (place_verdicts before whole one.place) one.changes
      (same_impact before lines (place_verdicts before lines one.place) (place_verdicts before whole one.place) one.changes (same_at one.place at) (impacts k d inside))

  same_order : (dirs : List (List (List ℕ))) → AreInOrder (own_dirs before lines fs) dirs → AreInOrder (own_dirs before whole fs) dirs
  same_order dirs order = subst (λ rows. AreInOrder (own_of before.table fs (written (rows_of before fs)) ++ own_of before.table fs (written rows)) dirs) own order

pub changes_are_of_whole : ChangesAreOfWhole
changes_are_of_whole before lines fs value within ascending table changes =
    let places = changes.places in
    let home = mount_home before.table ascending fs places.mount places.mount_is in
    let here : All (λ (place : Place). fs_of before.table (path_of place) ≡ Some fs) (map (λ (one : PlaceImpact). one.place) changes.found) =
    subst (All (λ (place : Place). fs_of before.table (path_of place) ≡ Some fs)) (sym places.are) (places_here before lines fs places.mount places.dirs home places.dirs_are) in
    record {
      found = changes.found;
      places = record {
        mount = places.mount;
        dirs = places.dirs;
        mount_is = places.mount_is;
        dirs_are = same_order before lines fs table within places.dirs places.dirs_are;
        are = places.are;
      };
      impacts = same_impacts before lines fs table within changes.found here changes.impacts;
      rows = changes.rows;
      silent = changes.silent;
    }
