-- The place of the first element that passes a test.
use Rattle.std.proofs.Common.{◌≡◌, ◌∙◌, inl, inr, ℕ, ◌<◌, ◌≤◌, Bool, true, List, None, Some, length, take, get_or, nat_lt, ap, sym, arith, if◌then◌else◌}
use Rattle.std.specs.List.{position, position_or_len}
use Rattle.std.proofs.lemmas.Bool.{cases_lt, lt-ltb}
use Rattle.std.proofs.lemmas.List.{get_or-take, length-take-le}
use Rattle.std.proofs.lemmas.List.Sums.{fails_before_first, position_or_len_is}
use Rattle.std.proofs.lemmas.Option.{none-some}

none_within : (place count : ℕ) → (if nat_lt place count then Some place else None) ≡ None → count ≤ place
none_within place count none =
    elim (cases_lt place count) [
      | inl lt ↦ absurd (none-some place (sym none ∙ ap (λ (b : Bool). if b then Some place else None) (lt-ltb place count lt)))
      | inr ge ↦ ge
    ]

pub first_place : {X : Type 0} (p : X → Bool) (xs : List X) (i : ℕ) (d : X) → i < length xs → position p (take i xs) ≡ None → p (get_or xs i d) ≡ true → position p xs ≡ Some i
first_place p xs i d within none passes =
    let len : length (take i xs) ≡ i = length-take-le i xs (omega arith) in
    let before : i ≤ position_or_len p (take i xs) = omega (arith, len, none_within (position_or_len p (take i xs)) (length (take i xs)) none) in
    let is : position_or_len p xs ≡ i =
    position_or_len_is p xs i d (omega arith) (λ k l. sym (ap p (get_or-take i xs k d l)) ∙ fails_before_first p (take i xs) k d (omega (arith, l, before))) (λ _. passes) in
    ap (λ (k : ℕ). if nat_lt k (length xs) then Some k else None) is ∙ ap (λ (b : Bool). if b then Some i else None) (lt-ltb i (length xs) within)
