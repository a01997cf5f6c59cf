-- Lists that are read by value.
use Rattle.std.proofs.Common.{◌≡◌, Bool, true, false, cond, List, [], ◌∷◌, ap, map, refl}
use Rattle.std.specs.Prelude.{filter}
use Rattle.std.specs.List.{dedup, dedup_from}

module _ {X Y : Type 0} (f : X → Y) where
  -- those that pass a test
  pub filter_mapped : (test : Y → Bool) (xs : List X) → map f (filter (λ x. test (f x)) xs) ≡ filter test (map f xs)
  filter_mapped test [] = refl
  filter_mapped test (x ∷ xs) = by (test (f x)) (filter_mapped test xs)
    where
      by : (b : Bool) → map f (filter (λ y. test (f y)) xs) ≡ filter test (map f xs) → map f (cond b (x ∷ filter (λ y. test (f y)) xs) (filter (λ y. test (f y)) xs)) ≡ cond b (f x ∷ filter test (map f xs)) (filter test (map f xs))
      by true rest = ap (λ ys. f x ∷ ys) rest
      by false rest = rest

  -- neighbours that are the same
  dedup_from_mapped : (same : Y → Y → Bool) (first : X) (xs : List X) → map f (dedup_from (λ x y. same (f x) (f y)) first xs) ≡ dedup_from same (f first) (map f xs)
  dedup_from_mapped same first [] = refl
  dedup_from_mapped same first (x ∷ xs) = by (same (f x) (f first)) (dedup_from_mapped same first xs) (dedup_from_mapped same x xs)
    where
      by : (b : Bool) → map f (dedup_from (λ x y. same (f x) (f y)) first xs) ≡ dedup_from same (f first) (map f xs) → map f (dedup_from (λ x y. same (f x) (f y)) x xs) ≡ dedup_from same (f x) (map f xs)
          → map f (cond b (dedup_from (λ x y. same (f x) (f y)) first xs) (first ∷ dedup_from (λ x y. same (f x) (f y)) x xs)) ≡ cond b (dedup_from same (f first) (map f xs)) (f first ∷ dedup_from same (f x) (map f xs))
      by true kept next = kept
      by false kept next = ap (λ ys. f first ∷ ys) next

  pub dedup_mapped : (same : Y → Y → Bool) (xs : List X) → map f (dedup (λ x y. same (f x) (f y)) xs) ≡ dedup same (map f xs)
  dedup_mapped same [] = refl
  dedup_mapped same (x ∷ xs) = dedup_from_mapped same x xs

-- the same of two functions, one after the other
pub map_twice : {X Y Z : Type 0} (f : X → Y) (g : Y → Z) (xs : List X) → map g (map f xs) ≡ map (λ x. g (f x)) xs
map_twice f g [] = refl
map_twice f g (x ∷ xs) = ap (λ zs. g (f x) ∷ zs) (map_twice f g xs)
