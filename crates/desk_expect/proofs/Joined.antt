-- Words with a blank between them.
use Rattle.std.proofs.Common.{◌≡◌, ℕ, ◌++◌, List, [], ◌∷◌, ap, sym}
use Rattle.std.specs.List.{flat_map, join_with_byte}
use Rattle.std.proofs.lemmas.List.{append-nil}

-- the first, and each other one after a byte
pub joined_after : (c : ℕ) (x : List ℕ) (xs : List (List ℕ)) → join_with_byte c (x ∷ xs) ≡ x ++ flat_map (λ y. c ∷ y) xs
joined_after c x [] = sym (append-nil x)
joined_after c x (y ∷ xs) = ap (λ t. x ++ c ∷ t) (joined_after c y xs)
