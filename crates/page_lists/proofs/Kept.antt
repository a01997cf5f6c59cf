-- What a filter keeps of a list.
use Rattle.std.proofs.Common.{◌≡◌, ◌⊎◌, ℕ, zero, suc, ◌<◌, ◌∙◌, Bool, true, cond, List, [], ◌∷◌, ap, arith, get_or, inl, inr, length, subst, sym}
use Rattle.std.specs.Prelude.{Contains, filter}
use Rattle.std.proofs.lemmas.Bool.{cases_Bool}

module _ {X : Type 0} (first x : X) (xs : List X) where
  here_or_there : Contains (first ∷ xs) x → (first ≡ x) ⊎ Contains xs x
  here_or_there has = at has.0 has.1 has.2
    where
      at : (k : ℕ) → k < length (first ∷ xs) → get_or (first ∷ xs) k x ≡ x → (first ≡ x) ⊎ Contains xs x
      at zero within is = inl is
      at (suc k) within is = inr (k, omega arith, is)

  there : Contains xs x → Contains (first ∷ xs) x
  there has = (let lt = has.1 in (suc has.0, omega arith, has.2))

  here : first ≡ x → Contains (first ∷ xs) x
  here is = (0, omega arith, is)

module _ {X : Type 0} (test : X → Bool) where
  pub kept_in : (xs : List X) (x : X) → Contains (filter test xs) x → Contains xs x × (test x ≡ true)
  kept_in [] x has = absurd (let lt = has.1 in omega arith)
  kept_in (first ∷ xs) x has =
      elim (cases_Bool (test first)) as (λ _. Contains (first ∷ xs) x × (test x ≡ true)) [
        | inl kept ↦ elim (here_or_there first x (filter test xs) (subst (λ ys. Contains ys x) (ap (λ b. cond b (first ∷ filter test xs) (filter test xs)) kept) has)) as (λ _. Contains (first ∷ xs) x × (test x ≡ true)) [
          | inl is ↦ (here first x xs is, ap test (sym is) ∙ kept)
          | inr later ↦ (let rest = kept_in xs x later in (there first x xs rest.0, rest.1))
        ]
        | inr left ↦
            let rest = kept_in xs x (subst (λ ys. Contains ys x) (ap (λ b. cond b (first ∷ filter test xs) (filter test xs)) left) has) in
            (there first x xs rest.0, rest.1)
      ]

  kept_first : (first x : X) (xs : List X) → first ≡ x → test x ≡ true → Contains (filter test (first ∷ xs)) x
  kept_first first x xs is passes =
      subst (λ ys. Contains ys x) (sym (ap (λ b. cond b (first ∷ filter test xs) (filter test xs)) (ap test is ∙ passes))) (here first x (filter test xs) is)

  kept_later : (first x : X) (xs : List X) → Contains (filter test xs) x → Contains (filter test (first ∷ xs)) x
  kept_later first x xs rest =
      elim (cases_Bool (test first)) as (λ _. Contains (filter test (first ∷ xs)) x) [
        | inl kept ↦ subst (λ ys. Contains ys x) (sym (ap (λ b. cond b (first ∷ filter test xs) (filter test xs)) kept)) (there first x (filter test xs) rest)
        | inr left ↦ subst (λ ys. Contains ys x) (sym (ap (λ b. cond b (first ∷ filter test xs) (filter test xs)) left)) rest
      ]

  pub in_kept : (xs : List X) (x : X) → Contains xs x → test x ≡ true → Contains (filter test xs) x
  in_kept [] x has passes = absurd (let lt = has.1 in omega arith)
  in_kept (first ∷ xs) x has passes =
      elim (here_or_there first x xs has) as (λ _. Contains (filter test (first ∷ xs)) x) [
        | inl is ↦ kept_first first x xs is passes
        | inr later ↦ kept_later first x xs (in_kept xs x later passes)
      ]
