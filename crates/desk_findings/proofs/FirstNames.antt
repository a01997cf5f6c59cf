-- The first name of a list that passes a test, found name by name.
use Rattle.std.proofs.Common.{◌≡◌, ◌∙◌, ◌<◌, ℕ, Bool, true, false, List, [], ap, arith, get_or, length, sym}
use Rattle.std.specs.List.{position_or_len}
use Rattle.std.proofs.lemmas.List.{get_or_default}
use Rattle.std.proofs.lemmas.List.Sums.{position_or_len_is}

-- none of the first passes
abbrev pub NoneUpTo : (List ℕ → Bool) → List (List ℕ) → ℕ → Type 0
NoneUpTo passes names count = (k : ℕ) → k < count → passes (get_or names k []) ≡ false

pub here : (passes : List ℕ → Bool) (names : List (List ℕ)) (i : ℕ) (name : List ℕ) → i < length names → name ≡ get_or names i name → NoneUpTo passes names i → passes name ≡ true → i ≡ position_or_len passes names
here passes names i name below is none good =
    sym (position_or_len_is passes names i [] (omega (arith, below)) none (λ within. ap passes (get_or_default names i [] name below ∙ sym is) ∙ good))
