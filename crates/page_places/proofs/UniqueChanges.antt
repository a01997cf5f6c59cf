-- What changes at the places of a file system is one list, and its text goes by the values of the changes.
use Rattle.std.proofs.Common.{◌≡◌, ℕ, ◌++◌, ◌∙◌, List, [], ◌∷◌, ap, arith, drop, get_or, length, map, refl, subst, sym}
use Rattle.std.specs.Prelude.{◌==◌, All, Option, Some, None, codes, count_by, nat_le, if◌then◌else◌}
use Rattle.std.specs.List.{flat_map}
use Rattle.std.proofs.lemmas.List.{length-map}
use Rattle.std.proofs.lemmas.List.Elements.{All-head, All-tail, filter_agree}
use Rattle.desk_policy.specs.Policy.{Content}
use Rattle.desk_who.specs.Runs.{Run}
use Rattle.desk_impact.specs.Impact.{AreThoseThat, ImpactsAreUnique, Matters, TwoVerdicts}
use Rattle.desk_impact.specs.Places.{Place, place_verdicts}
use Rattle.desk_impact.proofs.Telling.{same_test}
use Rattle.page_data.specs.Unique.{PlacesAreUnique}
use Rattle.page_html.proofs.OneOrder.{told_alike}
use Rattle.page_html.specs.Blocks.{element_html, tag_html}
use Rattle.page_html.specs.Items.{Item, Own, Plural}
use Rattle.page_html.specs.Tables.{rows_html, table_start}
use Rattle.page_html.specs.Titles.{Said}
use Rattle.page_html.specs.declared.blocks.Element.TheVariants.{Fold}
use Rattle.page_html.specs.declared.blocks.Tag.TheVariants.{FoldEnd, TableEnd}
use Rattle.page_places.specs.ChangeRows.{cells, change_cells, change_frame, changes_block, no_change, silent_words}
use Rattle.page_places.specs.Changes.{AreChangesIn, ChangesValue, IsImpactAt, PlaceChange, PlaceImpact, changes_at, row_value}
use Rattle.page_places.specs.Directories.{ArePlacesOf, places_with}
use Rattle.page_places.specs.UniqueLaws.{ChangesAreToldInOneWay}
use Rattle.page_places.specs.Widening.{AreSoManyIn, widens}
use Rattle.page_places.specs.declared.change_rows.ChangeRow.{ChangeRow}

-- those of which something holds
chosen_in_one_way : {X : Type 0} (P : X → Type 0) (values chosen others : List X) → AreThoseThat P values chosen → AreThoseThat P values others → chosen ≡ others
chosen_in_one_way P values chosen others are its =
    are.are ∙ filter_agree are.test its.test (λ x. same_test (are.test x) (its.test x) (are.decides x) (its.decides x)) values ∙ sym its.are

some_in : (default : List (List ℕ)) → Option (List (List ℕ)) → List (List ℕ)
some_in default None = default
some_in default (Some path) = path

same_some : (path other : List (List ℕ)) → Some path ≡ Some other → path ≡ other
unfolding some_in
same_some path other is = ap (some_in path) is

module _ (unique : PlacesAreUnique) (impacts : ImpactsAreUnique) (before after : Content) where
  module _ (fs : ℕ) where
    places_in_one_way : (places others : List Place) → ArePlacesOf before after fs places → ArePlacesOf before after fs others → places ≡ others
    places_in_one_way places others are its =
        let mount = same_some are.mount its.mount (sym are.mount_is ∙ its.mount_is) in
        let dirs = unique.order _ are.dirs its.dirs are.dirs_are its.dirs_are in
        are.are ∙ ap (λ m. places_with m are.dirs) mount ∙ ap (λ ds. places_with its.mount ds) dirs ∙ sym its.are

  one_impact : (found other : PlaceImpact) → found.place ≡ other.place → IsImpactAt before after found → IsImpactAt before after other → found ≡ other
  one_impact found other same is its =
      let at_same = subst (λ (place : Place). IsImpactAt before after (record { place = place; changes = other.changes })) (sym same) its in
      ap (λ (changes : List (Run TwoVerdicts)). record { place = found.place; changes = changes }) (sym (impacts before after (place_verdicts before after found.place) found.changes other.changes is at_same))
      ∙ ap (λ (place : Place). record { place = place; changes = other.changes }) same

  one_list : (found others : List PlaceImpact) → map (λ (one : PlaceImpact). one.place) found ≡ map (λ (one : PlaceImpact). one.place) others → All (IsImpactAt before after) found
      → All (IsImpactAt before after) others → found ≡ others
  one_list [] [] same are its = refl
  one_list [] (y ∷ ys) same are its = absurd (let long = ap length same in omega arith)
  one_list (x ∷ xs) [] same are its = absurd (let long = ap length same in omega arith)
  one_list (x ∷ xs) (y ∷ ys) same are its =
      let first = one_impact x y (ap (λ (places : List Place). get_or places 0 x.place) same) (All-head (IsImpactAt before after) x xs are) (All-head (IsImpactAt before after) y ys its) in
      let rest = one_list xs ys (ap (λ (places : List Place). drop 1 places) same) (All-tail (IsImpactAt before after) x xs are) (All-tail (IsImpactAt before after) y ys its) in
      ap (λ z. z ∷ xs) first ∙ ap (λ zs. y ∷ zs) rest

  module _ (fs : ℕ) where
    changes_in_one_way : (value other : ChangesValue) → AreChangesIn before after fs value → AreChangesIn before after fs other → value ≡ other
    changes_in_one_way value other are its =
        let found = one_list are.found its.found (places_in_one_way fs _ _ are.places its.places) are.impacts its.impacts in
        let all = ap (flat_map changes_at) found in
        let rows : value.rows ≡ other.rows =
        chosen_in_one_way (λ (one : PlaceChange). Matters one.change.value) (flat_map changes_at its.found) value.rows other.rows
        (subst (λ (changes : List PlaceChange). AreThoseThat (λ (one : PlaceChange). Matters one.change.value) changes value.rows) all are.rows) its.rows in
        let silent : value.silent ≡ other.silent = (let many = ap length all in let told = ap length rows in let s = are.silent in let t = its.silent in omega arith) in
        ap (λ (changes : List PlaceChange). record { rows = changes; silent = value.silent }) rows ∙ ap (λ (n : ℕ). record { rows = other.rows; silent = n }) silent

    widening_in_one_way : (count other : ℕ) → AreSoManyIn before after fs count → AreSoManyIn before after fs other → count ≡ other
    widening_in_one_way count other are its =
        are.count_is ∙ ap (λ (changes : ChangesValue). count_by widens changes.rows) (changes_in_one_way are.changes its.changes are.are its.are) ∙ sym its.count_is

-- ---- the text
abbrev table_of : List (List (List (Item (List ℕ)))) → List ℕ
table_of all = table_start change_frame (Said (codes "What it would change") ∷ []) ++ rows_html change_frame all ++ tag_html TableEnd

abbrev block : ℕ → ℕ → List (List (List (Item (List ℕ)))) → List ℕ
block silent count all =
    (if count == 0 then no_change
    else if nat_le count 24 then table_of all
    else element_html Fold (Own (Plural count (codes "change") (codes "changes")) ∷ []) ++ table_of all ++ tag_html FoldEnd)
    ++ silent_words silent

text_by : (rows others : List ChangeRow) (silent : ℕ) → map row_value rows ≡ map row_value others → changes_block rows silent ≡ changes_block others silent
text_by rows others silent same =
    let many : length rows ≡ length others = sym (length-map rows row_value) ∙ ap length same ∙ length-map others row_value in
    let told : map change_cells rows ≡ map change_cells others = told_alike row_value change_cells cells (λ row. refl) rows others same in
    λ i. block silent (many i) (told i)

pub changes_are_told_in_one_way : PlacesAreUnique → ImpactsAreUnique → ChangesAreToldInOneWay
changes_are_told_in_one_way unique impacts = record {
  places = λ before after fs. places_in_one_way unique impacts before after fs;
  changes = λ before after fs. changes_in_one_way unique impacts before after fs;
  widening = λ before after fs. widening_in_one_way unique impacts before after fs;
  text = text_by;
}
