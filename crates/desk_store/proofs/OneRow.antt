-- A list with the elements of a list of one is that list.
use Rattle.std.proofs.Common.{◌≡◌, sym, ap, refl, zero, suc, List, [], ◌∷◌, arith}
use Rattle.std.specs.Prelude.{Contains, IsPermutation}
use Rattle.std.proofs.lemmas.List.Sorted.{Contains-permutation, length_permutation}

is_one : {X : Type 0} (x a : X) → Contains (a ∷ []) x → x ≡ a
is_one x a (zero, below, is) = sym is
is_one x a (suc k, below, is) = absurd (omega arith)

pub one_row : {X : Type 0} (xs : List X) (a : X) → IsPermutation xs (a ∷ []) → xs ≡ a ∷ []
one_row [] a same = absurd (let e = length_permutation [] (a ∷ []) same in omega (arith, e))
one_row (x ∷ []) a same = ap (λ y. y ∷ []) (is_one x a (Contains-permutation (x ∷ []) (a ∷ []) x same (0, omega arith, refl)))
one_row (x ∷ y ∷ xs) a same = absurd (let e = length_permutation (x ∷ y ∷ xs) (a ∷ []) same in omega (arith, e))
