-- Lemmas on indexes.
use Rattle.std.proofs.Common.{◌≡◌, ◌≤◌, ◌+◌, ◌++◌, cond, ℕ, Bool, true, false, eqb, List, [], ◌∷◌, Option, None, Some, find, length, length-append, ap, sym, ◌∙◌, inl, inr, refl, not, arith}
use Rattle.std.specs.Prelude.{if◌then◌else◌, nat_lt, option_and_then, slice_get}
use Rattle.std.specs.List.{position, position_or_len}
use Rattle.std.specs.Option.{option_or}
use Rattle.std.proofs.lemmas.Bool.{cases_Bool}
use Rattle.std.proofs.lemmas.Bool.Decides.{nat_tests}
use Rattle.std.proofs.lemmas.List.Folds.{find_at, position_or_len_push}
use Rattle.std.proofs.lemmas.List.Sums.{prefix_len-le-length}
use Rattle.std.proofs.lemmas.Option.{slice_get_past}

-- the place, where it is inside the list
abbrev inside : ℕ → ℕ → Option ℕ
inside place len = cond (nat_lt place len) (Some place) None

push_at : (place len : ℕ) (end passes : Bool) → eqb place len ≡ end → place ≤ len
    → inside (cond end (len + cond passes 0 1) place) (len + 1) ≡ option_or (inside place len) (if passes then Some len else None)
push_at place len true true is up = grind (arith, nat_tests)
push_at place len true false is up = grind (arith, nat_tests)
push_at place len false passes is up = grind (arith, nat_tests)

module _ {X : Type 0} (p : X → Bool) where
  pub place_push : (xs : List X) (x : X) → position p (xs ++ x ∷ []) ≡ option_or (position p xs) (if p x then Some (length xs) else None)
  place_push xs x =
      ap (λ n. inside n (length (xs ++ x ∷ []))) (position_or_len_push p xs x)
      ∙ ap (inside (cond (eqb (position_or_len p xs) (length xs)) (length xs + cond (p x) 0 1) (position_or_len p xs))) (length-append xs (x ∷ []))
      ∙ push_at (position_or_len p xs) (length xs) (eqb (position_or_len p xs) (length xs)) (p x) refl (prefix_len-le-length (λ y. not (p y)) xs)

  -- what is found is at the first place
  pub found_there : (xs : List X) → option_and_then (slice_get xs) (position p xs) ≡ find p xs
  found_there xs =
      elim (cases_Bool (nat_lt (position_or_len p xs) (length xs))) [
        | inl within ↦ ap (λ b. option_and_then (slice_get xs) (cond b (Some (position_or_len p xs)) None)) within ∙ sym (find_at p xs)
        | inr past ↦
            let end : length xs ≤ position_or_len p xs = grind (arith, nat_tests) in
            ap (λ b. option_and_then (slice_get xs) (cond b (Some (position_or_len p xs)) None)) past
            ∙ sym (slice_get_past xs (position_or_len p xs) end) ∙ sym (find_at p xs)
      ]
