-- Names without a `-`.
use Rattle.std.proofs.Common.{◌≡◌, ℕ, Bool, false, List, [], ◌∷◌, length, refl, inl, inr, arith}
use Rattle.std.specs.List.{list_any, position_or_len}
use Rattle.std.proofs.lemmas.Bool.{cases_Bool}
use Rattle.std.proofs.lemmas.Bool.Decides.{nat_tests}

-- if the place of the first item that passes is the end, there is none
pub none_passes : (p : ℕ → Bool) (xs : List ℕ) → position_or_len p xs ≡ length xs → list_any p xs ≡ false
none_passes p [] e = refl
none_passes p (x ∷ xs) e =
    let rest = none_passes p xs in
    elim (cases_Bool (p x)) [
      | inl passes ↦ grind (arith, nat_tests)
      | inr fails ↦ grind (arith, nat_tests)
    ]
