-- Lists that are read by value.
use Rattle.std.proofs.Common.{◌≡◌, Ordering, ◌+◌, ◌<◌, ◌||◌, ◌∙◌, Bool, true, false, cond, List, [], ◌∷◌, ap, arith, get_or, length, map, refl, sym}
use Rattle.std.specs.Prelude.{count_by, filter}
use Rattle.std.specs.List.{dedup, dedup_from, list_any}
use Rattle.std.specs.List.Sorted.{IsSortedByKey}
use Rattle.std.specs.Ordering.{is_lt}
use Rattle.std.proofs.lemmas.List.{get_or-map, length-map}
use Rattle.std.proofs.lemmas.List.Sums.{sum_by-cons}
use Rattle.desk_impact.proofs.Telling.{map-filter}

module _ {X Y : Type 0} (f : X → Y) where
  -- those that pass a test
  pub filter_mapped : (test : Y → Bool) (xs : List X) → map f (filter (λ x. test (f x)) xs) ≡ filter test (map f xs)
  filter_mapped = map-filter f

  pub count_mapped : (test : Y → Bool) (xs : List X) → count_by (λ x. test (f x)) xs ≡ count_by test (map f xs)
  count_mapped test [] = refl
  count_mapped test (x ∷ xs) =
      sum_by-cons (λ y. cond (test (f y)) 1 0) x xs ∙ ap (λ n. cond (test (f x)) 1 0 + n) (count_mapped test xs) ∙ sym (sum_by-cons (λ y. cond (test y) 1 0) (f x) (map f xs))

  pub any_mapped : (test : Y → Bool) (xs : List X) → list_any (λ x. test (f x)) xs ≡ list_any test (map f xs)
  any_mapped test [] = refl
  any_mapped test (x ∷ xs) = ap (λ b. test (f x) || b) (any_mapped test xs)

  -- neighbours that are the same
  dedup_from_mapped : (same : Y → Y → Bool) (first : X) (xs : List X) → map f (dedup_from (λ x y. same (f x) (f y)) first xs) ≡ dedup_from same (f first) (map f xs)
  dedup_from_mapped same first [] = refl
  dedup_from_mapped same first (x ∷ xs) = by (same (f x) (f first)) (dedup_from_mapped same first xs) (dedup_from_mapped same x xs)
    where
      by : (b : Bool) → map f (dedup_from (λ x y. same (f x) (f y)) first xs) ≡ dedup_from same (f first) (map f xs) → map f (dedup_from (λ x y. same (f x) (f y)) x xs) ≡ dedup_from same (f x) (map f xs)
          → map f (cond b (dedup_from (λ x y. same (f x) (f y)) first xs) (first ∷ dedup_from (λ x y. same (f x) (f y)) x xs)) ≡ cond b (dedup_from same (f first) (map f xs)) (f first ∷ dedup_from same (f x) (map f xs))
      by true kept next = kept
      by false kept next = ap (λ ys. f first ∷ ys) next

  pub dedup_mapped : (same : Y → Y → Bool) (xs : List X) → map f (dedup (λ x y. same (f x) (f y)) xs) ≡ dedup same (map f xs)
  dedup_mapped same [] = refl
  dedup_mapped same (x ∷ xs) = dedup_from_mapped same x xs

  -- a list in the order of keys
  pub sorted_mapped : {K : Type 0} (key : Y → K) (compare : K → K → Ordering) (xs : List X) → IsSortedByKey (λ x. key (f x)) compare xs → IsSortedByKey key compare (map f xs)
  sorted_mapped key compare [] sorted k d low within = absurd (omega arith)
  sorted_mapped key compare (first ∷ rest) sorted k d low within =
      let xs : List X = first ∷ rest in
      let within' : k + 1 < length xs = omega (arith, length-map xs f) in
      ap (λ y. is_lt (compare (key y) (key (get_or (map f xs) k d)))) (get_or-map f xs (k + 1) first d within')
      ∙ ap (λ y. is_lt (compare (key (f (get_or xs (k + 1) first))) (key y))) (get_or-map f xs k first d (omega arith))
      ∙ sorted k first low within'

-- the same of two functions, one after the other
pub map_twice : {X Y Z : Type 0} (f : X → Y) (g : Y → Z) (xs : List X) → map g (map f xs) ≡ map (λ x. g (f x)) xs
map_twice f g [] = refl
map_twice f g (x ∷ xs) = ap (λ zs. g (f x) ∷ zs) (map_twice f g xs)
