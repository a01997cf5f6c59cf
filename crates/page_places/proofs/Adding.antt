-- Groups have each value once; and so the directories that are listed, and those that are not, are all.
use Rattle.std.proofs.Common.{◌≡◌, ◌+◌, ◌++◌, ◌∙◌, ◌||◌, ℕ, Bool, true, false, cond, List, [], ◌∷◌, ap, arith, drop, length, length-append, map, not, refl, sym, take}
use Rattle.std.specs.Prelude.{filter}
use Rattle.std.specs.List.{flat_map, list_any}
use Rattle.std.proofs.lemmas.List.{length-map, map-append, take-append-drop}
use Rattle.std.proofs.lemmas.List.Concat.{flat_map-append}
use Rattle.std.proofs.lemmas.List.Elements.{filter-append}
use Rattle.std.proofs.lemmas.List.Folds.{list_any-append}
use Rattle.desk_impact.specs.Sections.{PlaceBreaches}
use Rattle.desk_impact.proofs.Telling.{map-filter}
use Rattle.page_data.specs.Groups.{AreGrouped}
use Rattle.page_places.specs.ListedGroups.{directories_among, has_others, is_directory, is_others, most_listed, places_in, places_of}
use Rattle.page_places.specs.ListedLaws.{ListedAddUp, listed_places}

-- ---- those that pass one test, and those that do not
module _ {A : Type 0} (test p : A → Bool) where
  parted : (xs : List A) → length (filter test (filter p xs)) + length (filter test (filter (λ x. not (p x)) xs)) ≡ length (filter test xs)
  parted [] = refl
  parted (x ∷ xs) = by (parted xs) (p x)
    where
      in_kept : length (filter test (filter p xs)) + length (filter test (filter (λ y. not (p y)) xs)) ≡ length (filter test xs)
          → (b : Bool) → length (cond b (x ∷ filter test (filter p xs)) (filter test (filter p xs))) + length (filter test (filter (λ y. not (p y)) xs)) ≡ length (cond b (x ∷ filter test xs) (filter test xs))
      in_kept rest true = omega arith
      in_kept rest false = rest

      in_left : length (filter test (filter p xs)) + length (filter test (filter (λ y. not (p y)) xs)) ≡ length (filter test xs)
          → (b : Bool) → length (filter test (filter p xs)) + length (cond b (x ∷ filter test (filter (λ y. not (p y)) xs)) (filter test (filter (λ y. not (p y)) xs))) ≡ length (cond b (x ∷ filter test xs) (filter test xs))
      in_left rest true = omega arith
      in_left rest false = rest

      by : length (filter test (filter p xs)) + length (filter test (filter (λ y. not (p y)) xs)) ≡ length (filter test xs)
          → (b : Bool) → length (filter test (cond b (x ∷ filter p xs) (filter p xs))) + length (filter test (cond (not b) (x ∷ filter (λ y. not (p y)) xs) (filter (λ y. not (p y)) xs))) ≡ length (filter test (x ∷ xs))
      by rest true = in_kept rest (test x)
      by rest false = in_left rest (test x)

  or_true : (b : Bool) → (b || true) ≡ true
  or_true true = refl
  or_true false = refl

  either : (xs : List A) → (list_any test (filter p xs) || list_any test (filter (λ x. not (p x)) xs)) ≡ list_any test xs
  either [] = refl
  either (x ∷ xs) = by (either xs) (p x)
    where
      in_kept : (list_any test (filter p xs) || list_any test (filter (λ y. not (p y)) xs)) ≡ list_any test xs
          → (b : Bool) → ((b || list_any test (filter p xs)) || list_any test (filter (λ y. not (p y)) xs)) ≡ (b || list_any test xs)
      in_kept rest true = refl
      in_kept rest false = rest

      in_left : (list_any test (filter p xs) || list_any test (filter (λ y. not (p y)) xs)) ≡ list_any test xs
          → (b : Bool) → (list_any test (filter p xs) || (b || list_any test (filter (λ y. not (p y)) xs))) ≡ (b || list_any test xs)
      in_left rest true = or_true (list_any test (filter p xs))
      in_left rest false = rest

      by : (list_any test (filter p xs) || list_any test (filter (λ y. not (p y)) xs)) ≡ list_any test xs
          → (b : Bool) → (list_any test (cond b (x ∷ filter p xs) (filter p xs)) || list_any test (cond (not b) (x ∷ filter (λ y. not (p y)) xs) (filter (λ y. not (p y)) xs))) ≡ list_any test (x ∷ xs)
      by rest true = in_kept rest (test x)
      by rest false = in_left rest (test x)

-- ---- groups
module _ {A : Type 0} (alike : A → A → Bool) (test : A → Bool) where
  counted : (values : List A) (groups : List (List A)) → AreGrouped alike values groups → length (filter test (flat_map (λ group. group) groups)) ≡ length (filter test values)
  counted values [] are = ap (λ vs. length (filter test vs)) (sym are)
  counted values ([] ∷ groups) are = absurd are
  counted values ((first ∷ others) ∷ groups) are =
      let left = filter (λ value. not (alike first value)) values in
      let flat = flat_map (λ (group : List A). group) groups in
      ap length (filter-append test (first ∷ others) flat) ∙ length-append (filter test (first ∷ others)) (filter test flat)
      ∙ ap (λ n. length (filter test (first ∷ others)) + n) (counted left groups are.2)
      ∙ ap (λ group. length (filter test group) + length (filter test left)) are.1
      ∙ parted test (alike first) values

  some : (values : List A) (groups : List (List A)) → AreGrouped alike values groups → list_any test (flat_map (λ group. group) groups) ≡ list_any test values
  some values [] are = ap (list_any test) (sym are)
  some values ([] ∷ groups) are = absurd are
  some values ((first ∷ others) ∷ groups) are =
      let left = filter (λ value. not (alike first value)) values in
      let flat = flat_map (λ (group : List A). group) groups in
      list_any-append test (first ∷ others) flat
      ∙ ap (λ b. list_any test (first ∷ others) || b) (some left groups are.2)
      ∙ ap (λ group. list_any test group || list_any test left) are.1
      ∙ either test (alike first) values

-- ---- places
flat_places : (groups : List (List PlaceBreaches)) → places_in groups ≡ map (λ (section : PlaceBreaches). section.place) (flat_map (λ group. group) groups)
flat_places [] = refl
flat_places (group ∷ groups) =
    ap (λ ps. places_of group ++ ps) (flat_places groups) ∙ sym (map-append (λ (section : PlaceBreaches). section.place) group (flat_map (λ (one : List PlaceBreaches). one) groups))

directories_of : (sections : List PlaceBreaches) → directories_among (places_of sections) ≡ length (filter (λ (section : PlaceBreaches). is_directory section.place) sections)
directories_of sections =
    ap length (sym (map-filter (λ (section : PlaceBreaches). section.place) is_directory sections))
    ∙ length-map (filter (λ (section : PlaceBreaches). is_directory section.place) sections) (λ (section : PlaceBreaches). section.place)

others_of : (sections : List PlaceBreaches) → has_others (places_of sections) ≡ list_any (λ (section : PlaceBreaches). is_others section.place) sections
others_of [] = refl
others_of (section ∷ sections) = ap (λ b. is_others section.place || b) (others_of sections)

module _ (alike : PlaceBreaches → PlaceBreaches → Bool) (sections : List PlaceBreaches) (groups : List (List PlaceBreaches)) (are : AreGrouped alike sections groups) where
  all_directories : directories_among (places_in groups) ≡ directories_among (places_of sections)
  all_directories =
      ap directories_among (flat_places groups) ∙ directories_of (flat_map (λ (group : List PlaceBreaches). group) groups)
      ∙ counted alike (λ (section : PlaceBreaches). is_directory section.place) sections groups are ∙ sym (directories_of sections)

  all_others : has_others (places_in groups) ≡ has_others (places_of sections)
  all_others =
      ap has_others (flat_places groups) ∙ others_of (flat_map (λ (group : List PlaceBreaches). group) groups)
      ∙ some alike (λ (section : PlaceBreaches). is_others section.place) sections groups are ∙ sym (others_of sections)

in_two : (n : ℕ) (groups : List (List PlaceBreaches)) → places_in (take n groups) ++ places_in (drop n groups) ≡ places_in groups
in_two n groups = sym (flat_map-append places_of (take n groups) (drop n groups)) ∙ ap places_in (take-append-drop n groups)

pub listed_add_up : ListedAddUp
listed_add_up openings sections value listed =
    let groups = listed.groups in
    let own = listed.are_listed in
    let first = places_in (take most_listed groups) in
    let left = places_in (drop most_listed groups) in
    let shown : places_in (listed_places value) ≡ first = ap places_in own.listed in
    record {
      directories =
          ap (λ ps. directories_among ps + value.unlisted) shown ∙ ap (λ n. directories_among first + n) own.unlisted
          ∙ sym (ap length (filter-append is_directory first left) ∙ length-append (filter is_directory first) (filter is_directory left))
          ∙ ap directories_among (in_two most_listed groups) ∙ all_directories listed.are.alike sections groups listed.are.are;
      others =
          ap (λ ps. has_others ps || value.has_unlisted_others) shown ∙ ap (λ b. has_others first || b) own.others
          ∙ sym (list_any-append is_others first left)
          ∙ ap has_others (in_two most_listed groups) ∙ all_others listed.are.alike sections groups listed.are.are;
    }
