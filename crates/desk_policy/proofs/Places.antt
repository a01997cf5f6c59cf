-- Lemmas on indexes.
use Rattle.std.proofs.Common.{◌≡◌, ◌<◌, ◌≤◌, ◌+◌, ◌++◌, cond, ℕ, Bool, true, false, eqb, List, [], ◌∷◌, Option, None, Some, find, length, length-append, take, get_or, ap, sym, ◌∙◌, inl, inr, refl, not, arith}
use Rattle.std.specs.Prelude.{if◌then◌else◌, nat_lt, option_and_then, slice_get, unwrap_or}
use Rattle.std.specs.List.{position, position_or_len}
use Rattle.std.specs.Option.{option_or}
use Rattle.std.proofs.lemmas.Bool.{cases_Bool}
use Rattle.std.proofs.lemmas.Bool.Decides.{nat_tests}
use Rattle.std.proofs.lemmas.List.{length-take-le, take_more}
use Rattle.std.proofs.lemmas.List.Folds.{find_at, position_or_len_push}
use Rattle.std.proofs.lemmas.List.Sums.{prefix_len-le-length}
use Rattle.std.proofs.lemmas.Option.{slice_get_past}

-- the place, where it is inside the list
abbrev inside : ℕ → ℕ → Option ℕ
inside place len = cond (nat_lt place len) (Some place) None

push_at : (place len : ℕ) (end passes : Bool) → eqb place len ≡ end → place ≤ len
    → inside (cond end (len + cond passes 0 1) place) (len + 1) ≡ option_or (inside place len) (if passes then Some len else None)
push_at place len true true is up = grind (arith, nat_tests)
push_at place len true false is up = grind (arith, nat_tests)
push_at place len false passes is up = grind (arith, nat_tests)

-- past the values there is none
pub there_or_past : {X : Type 0} (xs : List X) (place : Option ℕ) → slice_get xs (unwrap_or place (length xs)) ≡ option_and_then (slice_get xs) place
there_or_past xs None = slice_get_past xs (length xs) (omega arith)
there_or_past xs (Some place) = refl

module _ {X : Type 0} (p : X → Bool) where
  push : (xs : List X) (x : X) → position p (xs ++ x ∷ []) ≡ option_or (position p xs) (if p x then Some (length xs) else None)
  push xs x =
      ap (λ n. inside n (length (xs ++ x ∷ []))) (position_or_len_push p xs x)
      ∙ ap (inside (cond (eqb (position_or_len p xs) (length xs)) (length xs + cond (p x) 0 1) (position_or_len p xs))) (length-append xs (x ∷ []))
      ∙ push_at (position_or_len p xs) (length xs) (eqb (position_or_len p xs) (length xs)) (p x) refl (prefix_len-le-length (λ y. not (p y)) xs)

  -- the first place, one value on
  pub place_more : (xs : List X) (i : ℕ) (x : X) → i < length xs → x ≡ get_or xs i x → option_or (position p (take i xs)) (if p x then Some i else None) ≡ position p (take (i + 1) xs)
  place_more xs i x below is =
      let up : take (i + 1) xs ≡ take i xs ++ x ∷ [] = take_more xs i x below ∙ ap (λ y. take i xs ++ y ∷ []) (sym is) in
      let len : length (take i xs) ≡ i = length-take-le i xs (omega (arith, below)) in
      ap (λ n. option_or (position p (take i xs)) (if p x then Some n else None)) (sym len) ∙ sym (push (take i xs) x) ∙ ap (position p) (sym up)

  -- what is found is at the first place
  pub found_there : (xs : List X) → option_and_then (slice_get xs) (position p xs) ≡ find p xs
  found_there xs =
      elim (cases_Bool (nat_lt (position_or_len p xs) (length xs))) [
        | inl within ↦ ap (λ b. option_and_then (slice_get xs) (cond b (Some (position_or_len p xs)) None)) within ∙ sym (find_at p xs)
        | inr past ↦
            let end : length xs ≤ position_or_len p xs = grind (arith, nat_tests) in
            ap (λ b. option_and_then (slice_get xs) (cond b (Some (position_or_len p xs)) None)) past
            ∙ sym (slice_get_past xs (position_or_len p xs) end) ∙ sym (find_at p xs)
      ]
