-- What a list that was made of another one has, and what passes a test.
use Rattle.std.proofs.Common.{◌≡◌, ◌∙◌, Bool, true, List, [], ◌∷◌, ap, arith, inl, inr, map, refl, subst, sym}
use Rattle.std.specs.Prelude.{All, Contains, filter}
use Rattle.std.proofs.lemmas.Bool.{cases_Bool, cond-false, cond-true}
use Rattle.std.proofs.lemmas.List.{get_or-map, length-map}
use Rattle.std.proofs.lemmas.List.Elements.{All-cons, All-head, All-tail}
use Rattle.page_data.proofs.Containing.{here, here_or_there, there}

pub contains_map : {X Y : Type 0} (f : X → Y) (xs : List X) (x : X) → Contains xs x → Contains (map f xs) (f x)
contains_map f xs x has = (let lt = has.1 in (has.0, omega (arith, length-map xs f), get_or-map f xs has.0 x (f x) has.1 ∙ ap f has.2))

-- one of the elements gives the value
pub record FromMap {X Y : Type 0} (f : X → Y) (xs : List X) (y : Y) : Type 0 where
  pub x : X
  pub has : Contains xs x
  pub is : f x ≡ y

pub from_map : {X Y : Type 0} (f : X → Y) (xs : List X) (y : Y) → Contains (map f xs) y → FromMap f xs y
from_map f [] y has = absurd (let lt = has.1 in omega arith)
from_map f (x ∷ xs) y has =
    elim (here_or_there (f x) y (map f xs) has) as (λ _. FromMap f (x ∷ xs) y) [
      | inl is ↦ record { x = x; has = here x x xs refl; is = is }
      | inr later ↦ (let rest = from_map f xs y later in record { x = rest.x; has = there x rest.x xs rest.has; is = rest.is })
    ]

pub contains_filter : {X : Type 0} (test : X → Bool) (xs : List X) (x : X) → Contains xs x → test x ≡ true → Contains (filter test xs) x
contains_filter test [] x has passes = absurd (let lt = has.1 in omega arith)
contains_filter test (first ∷ xs) x has passes =
    elim (here_or_there first x xs has) as (λ _. Contains (filter test (first ∷ xs)) x) [
      | inl is ↦ subst (λ ys. Contains ys x) (sym (cond-true (test first) (first ∷ filter test xs) (filter test xs) (ap test is ∙ passes))) (here first x (filter test xs) is)
      | inr later ↦
          elim (cases_Bool (test first)) as (λ _. Contains (filter test (first ∷ xs)) x) [
            | inl e ↦ subst (λ ys. Contains ys x) (sym (cond-true (test first) (first ∷ filter test xs) (filter test xs) e)) (there first x (filter test xs) (contains_filter test xs x later passes))
            | inr e ↦ subst (λ ys. Contains ys x) (sym (cond-false (test first) (first ∷ filter test xs) (filter test xs) e)) (contains_filter test xs x later passes)
          ]
    ]

pub all_filter : {X : Type 0} (P : X → Type 0) (test : X → Bool) (xs : List X) → All P xs → All P (filter test xs)
all_filter P test [] all = all
all_filter P test (x ∷ xs) all =
    elim (cases_Bool (test x)) as (λ _. All P (filter test (x ∷ xs))) [
      | inl e ↦ subst (All P) (sym (cond-true (test x) (x ∷ filter test xs) (filter test xs) e)) (All-cons P x (filter test xs) (All-head P x xs all) (all_filter P test xs (All-tail P x xs all)))
      | inr e ↦ subst (All P) (sym (cond-false (test x) (x ∷ filter test xs) (filter test xs) e)) (all_filter P test xs (All-tail P x xs all))
    ]
