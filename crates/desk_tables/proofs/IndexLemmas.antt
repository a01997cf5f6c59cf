-- Lemmas on indexes.
use Rattle.std.proofs.Common.{◌≡◌, ◌<◌, ◌≤◌, ◌+◌, ◌++◌, cond, ℕ, Bool, true, false, eqb, List, [], ◌∷◌, Option, None, Some, find, length, length-append, take, get_or, ap, sym, ◌∙◌, inl, inr, refl, not, arith, drop, nat_cmp, suc, tests, zero}
use Rattle.std.specs.Prelude.{if◌then◌else◌, nat_lt, option_and_then, slice_get}
use Rattle.std.specs.List.{flat_map, position, position_or_len}
use Rattle.std.specs.Cmp.Lexicographic.{slice_cmp}
use Rattle.std.specs.Option.{option_or}
use Rattle.std.specs.Str.{str_to_ascii_lowercase}
use Rattle.std.proofs.lemmas.Bool.{cases_Bool}
use Rattle.std.proofs.lemmas.Bool.Decides.{nat_tests}
use Rattle.std.proofs.lemmas.Grind.{flat_map-append}
use Rattle.std.proofs.lemmas.List.{append-nil, length-take-le, take_more}
use Rattle.std.proofs.lemmas.List.Folds.{find_at, position_or_len_push}
use Rattle.std.proofs.lemmas.List.Sums.{prefix_len-le-length}
use Rattle.std.proofs.lemmas.Option.{slice_get_past}

-- one more value of a list that is mapped to lists
pub more : {X A : Type 0} (f : X → List A) (xs : List X) (i : ℕ) (x : X) → i < length xs → x ≡ get_or xs i x → flat_map f (take i xs) ++ f x ≡ flat_map f (take (i + 1) xs)
more f xs i x below is =
    sym (ap (flat_map f) (take_more xs i x below ∙ ap (λ y. take i xs ++ y ∷ []) (sym is))
    ∙ flat_map-append f (take i xs) (x ∷ []) ∙ ap (λ ys. flat_map f (take i xs) ++ ys) (append-nil (f x)))

-- the place, where it is inside the list
abbrev inside : ℕ → ℕ → Option ℕ
inside place len = cond (nat_lt place len) (Some place) None

push_at : (place len : ℕ) (end passes : Bool) → eqb place len ≡ end → place ≤ len
    → inside (cond end (len + cond passes 0 1) place) (len + 1) ≡ option_or (inside place len) (if passes then Some len else None)
push_at place len true true is up = grind (arith, nat_tests)
push_at place len true false is up = grind (arith, nat_tests)
push_at place len false passes is up = grind (arith, nat_tests)

module _ {X : Type 0} (p : X → Bool) where
  push : (xs : List X) (x : X) → position p (xs ++ x ∷ []) ≡ option_or (position p xs) (if p x then Some (length xs) else None)
  push xs x =
      ap (λ n. inside n (length (xs ++ x ∷ []))) (position_or_len_push p xs x)
      ∙ ap (inside (cond (eqb (position_or_len p xs) (length xs)) (length xs + cond (p x) 0 1) (position_or_len p xs))) (length-append xs (x ∷ []))
      ∙ push_at (position_or_len p xs) (length xs) (eqb (position_or_len p xs) (length xs)) (p x) refl (prefix_len-le-length (λ y. not (p y)) xs)

  -- the first place, one value on
  pub place_more : (xs : List X) (i : ℕ) (x : X) → i < length xs → x ≡ get_or xs i x → option_or (position p (take i xs)) (if p x then Some i else None) ≡ position p (take (i + 1) xs)
  place_more xs i x below is =
      let up : take (i + 1) xs ≡ take i xs ++ x ∷ [] = take_more xs i x below ∙ ap (λ y. take i xs ++ y ∷ []) (sym is) in
      let len : length (take i xs) ≡ i = length-take-le i xs (omega (arith, below)) in
      ap (λ n. option_or (position p (take i xs)) (if p x then Some n else None)) (sym len) ∙ sym (push (take i xs) x) ∙ ap (position p) (sym up)

  -- what is found is at the first place
  pub found_there : (xs : List X) → option_and_then (slice_get xs) (position p xs) ≡ find p xs
  found_there xs =
      elim (cases_Bool (nat_lt (position_or_len p xs) (length xs))) [
        | inl within ↦ ap (λ b. option_and_then (slice_get xs) (cond b (Some (position_or_len p xs)) None)) within ∙ sym (find_at p xs)
        | inr past ↦
            let end : length xs ≤ position_or_len p xs = grind (arith, nat_tests) in
            ap (λ b. option_and_then (slice_get xs) (cond b (Some (position_or_len p xs)) None)) past
            ∙ sym (slice_get_past xs (position_or_len p xs) end) ∙ sym (find_at p xs)
      ]

-- where one of two texts ends, they compare as their lengths do
lengths : (m n : ℕ) → nat_cmp m n ≡ nat_cmp (suc m) (suc n)
lengths m n = grind (arith, tests)

pub ended : (a b : List ℕ) (i : ℕ) → i ≤ length a → i ≤ length b → (i < length a → length b ≤ i)
    → slice_cmp nat_cmp (str_to_ascii_lowercase (drop i a)) (str_to_ascii_lowercase (drop i b)) ≡ nat_cmp (length a) (length b)
ended [] [] zero la lb end = refl
ended [] (y ∷ b) zero la lb end = grind (arith, tests)
ended (x ∷ a) [] zero la lb end = grind (arith, tests)
ended (x ∷ a) (y ∷ b) zero la lb end = let past = end (omega arith) in absurd (omega arith)
ended [] b (suc i) la lb end = absurd (omega arith)
ended (x ∷ a) [] (suc i) la lb end = absurd (omega arith)
ended (x ∷ a) (y ∷ b) (suc i) la lb end = ended a b i (omega arith) (omega arith) (λ less. let past = end (omega arith) in omega arith) ∙ lengths (length a) (length b)
