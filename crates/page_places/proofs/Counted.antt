-- Places are counted one by one.
use Rattle.std.proofs.Common.{◌≡◌, ◌+◌, ◌≤◌, ◌++◌, ◌||◌, ◌∙◌, Bool, true, false, cond, List, [], ◌∷◌, ap, arith, length, length-append, refl}
use Rattle.std.specs.Prelude.{filter}
use Rattle.std.proofs.lemmas.List.Elements.{filter-append}
use Rattle.std.proofs.lemmas.List.Folds.{list_any-append}
use Rattle.desk_impact.specs.Places.{Place}
use Rattle.page_places.specs.ListedGroups.{directories_among, has_others, is_directory, is_others}

one : (b : Bool) (place : Place) → length (cond b (place ∷ []) []) ≡ cond b 1 0
one true place = refl
one false place = refl

pub one_more : (places : List Place) (place : Place) → directories_among (places ++ place ∷ []) ≡ directories_among places + cond (is_directory place) 1 0
one_more places place =
    ap length (filter-append is_directory places (place ∷ [])) ∙ length-append (filter is_directory places) (filter is_directory (place ∷ []))
    ∙ ap (λ n. directories_among places + n) (one (is_directory place) place)

pub few : (places : List Place) → directories_among places ≤ length places
few [] = omega arith
few (place ∷ places) = by (few places) (is_directory place)
  where
    by : directories_among places ≤ length places → (b : Bool) → length (cond b (place ∷ filter is_directory places) (filter is_directory places)) ≤ length (place ∷ places)
    by rest true = omega arith
    by rest false = omega arith

pub at_most_one : (b : Bool) → cond b 1 0 ≤ 1
at_most_one true = omega arith
at_most_one false = omega arith

or_false : (b : Bool) → (b || false) ≡ b
or_false true = refl
or_false false = refl

pub another : (places : List Place) (place : Place) → has_others (places ++ place ∷ []) ≡ (has_others places || is_others place)
another places place = list_any-append is_others places (place ∷ []) ∙ ap (λ b. has_others places || b) (or_false (is_others place))
