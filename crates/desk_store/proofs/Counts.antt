-- How many elements of a list pass a test.
use Rattle.std.proofs.Common.{◌≡◌, ap, refl, inl, inr, ℕ, ◌<◌, Bool, true, false, cond, List, [], ◌∷◌, map, arith}
use Rattle.std.specs.List.{AllByRecursion, sum_by}
use Rattle.std.proofs.lemmas.Bool.{cases_Bool}
use Rattle.std.proofs.lemmas.List.Sums.{sum_by-cons}

abbrev pub one_if : Bool → ℕ
one_if b = cond b 1 0

pub sum_map : {X Y : Type 0} (f : Y → ℕ) (g : X → Y) (xs : List X) → sum_by f (map g xs) ≡ sum_by (λ x. f (g x)) xs
sum_map f g [] = refl
sum_map f g (x ∷ xs) =
    let more = sum_by-cons f (g x) (map g xs) in
    let rest = sum_map f g xs in
    let all = sum_by-cons (λ x. f (g x)) x xs in
    omega (arith, more, rest, all)

module _ {X : Type 0} (p : X → Bool) where
  pub none_counts : (xs : List X) → AllByRecursion (λ x. p x ≡ false) xs → sum_by (λ x. one_if (p x)) xs ≡ 0
  none_counts [] h = refl
  none_counts (x ∷ xs) h =
      let all = sum_by-cons (λ x. one_if (p x)) x xs in
      let own : one_if (p x) ≡ 0 = ap one_if h.0 in
      let rest = none_counts xs h.1 in
      omega (arith, all, own, rest)

  -- of elements that count one passes
  pub one_passes : (Q : X → Type 0) (xs : List X) → AllByRecursion Q xs → 0 < sum_by (λ x. one_if (p x)) xs → (x : X) × Q x × (p x ≡ true)
  one_passes Q [] h some = absurd (omega arith)
  one_passes Q (x ∷ xs) h some =
      let all = sum_by-cons (λ x. one_if (p x)) x xs in
      elim (cases_Bool (p x)) [
        | inl passes ↦ (x, h.0, passes)
        | inr fails ↦
            let own : one_if (p x) ≡ 0 = ap one_if fails in
            one_passes Q xs h.1 (omega (arith, all, own, some))
      ]
