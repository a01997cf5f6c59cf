-- A sum that stops at the greatest number of 64 bits, with one more.
use Rattle.std.proofs.Common.{◌≡◌, ◌∙◌, ℕ, ◌+◌, ◌-◌, ◌<◌, List, ap, arith, get_or, inl, inr, length, sym, take}
use Rattle.std.specs.Prelude.{◌^◌, min}
use Rattle.std.specs.List.{sum_by}
use Rattle.std.proofs.lemmas.Bool.{cases_lt}
use Rattle.std.proofs.lemmas.List.Sums.{sum_by_more}
use Rattle.std.proofs.Math.Nat.{min-eq_left, min-eq_right}

abbrev most : ℕ
most = 2 ^ 64 - 1

-- a number that stops, and more
stopped : (sum more : ℕ) → min (min sum most + more) most ≡ min (sum + more) most
stopped sum more =
    elim (cases_lt sum most) as (λ _. min (min sum most + more) most ≡ min (sum + more) most) [
      | inl below ↦ ap (λ n. min (n + more) most) (min-eq_left (omega (arith, below)))
      | inr past ↦ ap (λ n. min (n + more) most) (min-eq_right past) ∙ min-eq_right (omega arith) ∙ sym (min-eq_right (omega (arith, past)))
    ]

pub most_more : {X : Type 0} (f : X → ℕ) (xs : List X) (i : ℕ) (x : X) → i < length xs → x ≡ get_or xs i x → (now next : ℕ) → now ≡ min (sum_by f (take i xs)) most
    → next ≡ min (now + f x) most → next ≡ min (sum_by f (take (i + 1) xs)) most
most_more f xs i x below is now next before added =
    added ∙ ap (λ n. min (n + f x) most) before ∙ stopped (sum_by f (take i xs)) (f x)
    ∙ ap (λ n. min n most) (ap (λ y. sum_by f (take i xs) + f y) is ∙ sym (sum_by_more f xs i x below))
