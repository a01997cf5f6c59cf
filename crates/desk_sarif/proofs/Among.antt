-- What is among the elements of a list is so among those of a longer one, and its image among theirs.
use Rattle.std.proofs.Common.{zero, suc, List, [], ◌∷◌, ◌++◌, ap, arith, map}
use Rattle.std.specs.List.{IsAmong}

later : {X : Type 0} (x y : X) (xs : List X) → IsAmong xs y → IsAmong (x ∷ xs) y
later x y xs among = (suc among.0, (omega (arith, among.1.0), among.1.1))

pub among_left : {X : Type 0} (xs ys : List X) (y : X) → IsAmong xs y → IsAmong (xs ++ ys) y
among_left [] ys y (i, (within, is)) = absurd (omega (arith, within))
among_left (x ∷ xs) ys y (zero, (within, is)) = (0, (omega arith, is))
among_left (x ∷ xs) ys y (suc i, (within, is)) = later x y (xs ++ ys) (among_left xs ys y (i, (omega (arith, within), is)))

pub among_right : {X : Type 0} (xs ys : List X) (y : X) → IsAmong ys y → IsAmong (xs ++ ys) y
among_right [] ys y among = among
among_right (x ∷ xs) ys y among = later x y (xs ++ ys) (among_right xs ys y among)

pub among_map : {X Y : Type 0} (f : X → Y) (xs : List X) (x : X) → IsAmong xs x → IsAmong (map f xs) (f x)
among_map f [] y (i, (within, is)) = absurd (omega (arith, within))
among_map f (x ∷ xs) y (zero, (within, is)) = (0, (omega arith, ap f is))
among_map f (x ∷ xs) y (suc i, (within, is)) = later (f x) (f y) (map f xs) (among_map f xs y (i, (omega (arith, within), is)))
