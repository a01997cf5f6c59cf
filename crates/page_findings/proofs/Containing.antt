-- What lists of numbers have.
use Rattle.std.proofs.Common.{◌≡◌, ℕ, true, List, [], ◌∷◌, arith, inl, inr, sym}
use Rattle.std.specs.Prelude.{◌==◌, Contains}
use Rattle.std.proofs.lemmas.Bool.{eq-eqb, eqb-true, or_cases, or_left, or_right, true≢false}
use Rattle.desk_text.specs.AddrSet.{is_among}
use Rattle.page_data.proofs.Containing.{here, here_or_there, there}

pub none_there : {X : Type 0} (x : X) → Contains [] x → ⊥
none_there x has = (let lt = has.1 in omega arith)

pub among_contains : (n : ℕ) (xs : List ℕ) → is_among n xs ≡ true → Contains xs n
among_contains n [] is = absurd (true≢false (sym is))
among_contains n (x ∷ xs) is =
    elim (or_cases (x == n) (is_among n xs) is) as (λ _. Contains (x ∷ xs) n) [
      | inl same ↦ here x n xs (eqb-true x n same)
      | inr later ↦ there x n xs (among_contains n xs later)
    ]

pub contains_among : (n : ℕ) (xs : List ℕ) → Contains xs n → is_among n xs ≡ true
contains_among n [] has = absurd (none_there n has)
contains_among n (x ∷ xs) has =
    elim (here_or_there x n xs has) as (λ _. is_among n (x ∷ xs) ≡ true) [
      | inl is ↦ or_left (x == n) (is_among n xs) (eq-eqb x n is)
      | inr later ↦ or_right (x == n) (is_among n xs) (contains_among n xs later)
    ]
