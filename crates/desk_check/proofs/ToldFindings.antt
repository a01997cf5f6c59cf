-- The first of findings, for `told_fault`.
use Rattle.std.proofs.Common.{List, [], ◌∷◌, IfSome, slice_get}
use Rattle.std.proofs.lemmas.List.Elements.{recursion_from_All}
use Rattle.std.specs.List.{All, AllByRecursion}

first_in : {X : Type 0} (P : X → Type 0) (xs : List X) → AllByRecursion P xs → IfSome (slice_get xs 0) P
first_in P [] all = tt
first_in P (x ∷ xs) all = all.0

-- what holds of each holds of the first
pub first : {X : Type 0} (P : X → Type 0) (xs : List X) → All P xs → IfSome (slice_get xs 0) P
first P xs all = first_in P xs (recursion_from_All P xs all)
