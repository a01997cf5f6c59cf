-- What a list with one more element in front has.
use Rattle.std.proofs.Common.{◌≡◌, ◌⊎◌, ℕ, zero, suc, ◌<◌, List, ◌∷◌, arith, get_or, inl, inr, length}
use Rattle.std.specs.Prelude.{Contains}

module _ {X : Type 0} (first x : X) (xs : List X) where
  pub here_or_there : Contains (first ∷ xs) x → (first ≡ x) ⊎ Contains xs x
  here_or_there has = at has.0 has.1 has.2
    where
      at : (k : ℕ) → k < length (first ∷ xs) → get_or (first ∷ xs) k x ≡ x → (first ≡ x) ⊎ Contains xs x
      at zero within is = inl is
      at (suc k) within is = inr (k, omega arith, is)

  pub there : Contains xs x → Contains (first ∷ xs) x
  there has = (let lt = has.1 in (suc has.0, omega arith, has.2))

  pub here : first ≡ x → Contains (first ∷ xs) x
  here is = (0, omega arith, is)
