-- What is found in a list.
use Rattle.std.proofs.Common.{◌≡◌, Bool, true, false, cond, List, [], ◌∷◌, Option, Some, map, refl}
use Rattle.std.specs.Prelude.{All, IfSome, find}
use Rattle.std.specs.Option.{option_map}
use Rattle.std.proofs.lemmas.List.Elements.{All-head, All-tail}

either_is : {X : Type 0} (P : X → Type 0) (b : Bool) (x : X) (other : Option X) → P x → IfSome other P → IfSome (cond b (Some x) other) P
either_is P true x other here rest = here
either_is P false x other here rest = rest

-- what holds of each holds of the one that is found
pub found_is : {X : Type 0} (P : X → Type 0) (p : X → Bool) (xs : List X) → All P xs → IfSome (find p xs) P
found_is P p [] all = tt
found_is P p (x ∷ xs) all = either_is P (p x) x (find p xs) (All-head P x xs all) (found_is P p xs (All-tail P x xs all))

-- what is found among images is the image of what is found
pub found_mapped : {X Y : Type 0} (f : X → Y) (p : Y → Bool) (xs : List X) → find p (map f xs) ≡ option_map f (find (λ x. p (f x)) xs)
found_mapped f p [] = refl
found_mapped f p (x ∷ xs) = by (p (f x)) (found_mapped f p xs)
  where
    by : (b : Bool) → find p (map f xs) ≡ option_map f (find (λ y. p (f y)) xs) → cond b (Some (f x)) (find p (map f xs)) ≡ option_map f (cond b (Some x) (find (λ y. p (f y)) xs))
    by true rest = refl
    by false rest = rest
