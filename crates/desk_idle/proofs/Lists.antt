-- What all elements of a list have, and those of its parts.
use Rattle.std.proofs.Common.{ℕ, ◌<◌, ◌≤◌, ◌++◌, Bool, cond, List, [], ◌∷◌, ap, arith, get_or, inl, inr, length, refl, subst, sym, take}
use Rattle.std.specs.Prelude.{filter}
use Rattle.std.specs.List.{AllByRecursion, AllPairs, Contains}
use Rattle.std.proofs.lemmas.Bool.{cases_Bool}
use Rattle.std.proofs.lemmas.List.{get_or-take, length-take}
use Rattle.std.proofs.lemmas.List.Elements.{Contains-append_right}

pub appended : {X : Type 0} (P : X → Type 0) (xs ys : List X) → AllByRecursion P (xs ++ ys) → AllByRecursion P xs × AllByRecursion P ys
appended P [] ys all = (tt, all)
appended P (x ∷ xs) ys all = let s = appended P xs ys all.1 in ((all.0, s.0), s.1)

pub kept : {X : Type 0} (P : X → Type 0) (p : X → Bool) (xs : List X) → AllByRecursion P xs → AllByRecursion P (filter p xs)
kept P p [] all = tt
kept P p (x ∷ xs) all =
    elim (cases_Bool (p x)) [
      | inl here ↦ subst (AllByRecursion P) (sym (ap (λ b. cond b (x ∷ filter p xs) (filter p xs)) here)) (all.0, kept P p xs all.1)
      | inr later ↦ subst (AllByRecursion P) (sym (ap (λ b. cond b (x ∷ filter p xs) (filter p xs)) later)) (kept P p xs all.1)
    ]

pub in_middle : {X : Type 0} (earlier : List X) (x : X) (later : List X) → Contains (earlier ++ x ∷ later) x
in_middle earlier x later = Contains-append_right earlier (x ∷ later) x (0, omega arith, refl)

pub AllPairs-take : {X : Type 0} (R : X → X → Type 0) (xs : List X) (n : ℕ) → AllPairs R xs → AllPairs R (take n xs)
AllPairs-take R xs n all i j d lt inside =
    let few : length (take n xs) ≤ length xs = omega (arith, length-take n xs) in
    let j_small : j < n = omega (arith, length-take n xs) in
    let h = all i j d lt (omega arith) in
    subst (λ x. R x (get_or (take n xs) j d)) (sym (get_or-take n xs i d (omega arith))) (subst (λ y. R (get_or xs i d) y) (sym (get_or-take n xs j d j_small)) h)
