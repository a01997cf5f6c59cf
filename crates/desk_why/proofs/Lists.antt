-- Tests that all, or no, elements of a list pass.
use Rattle.std.proofs.Common.{◌≡◌, ◌⊎◌, ◌∙◌, Bool, true, cond, List, [], ◌∷◌, Option, Some, None, ap, inl, inr, refl, sym}
use Rattle.std.specs.Prelude.{filter, find, not}
use Rattle.std.specs.List.{list_any, list_all}
use Rattle.std.specs.Option.{option_or}
use Rattle.std.proofs.lemmas.Bool.{and_parts, and_from, or_cases, or_left, or_right, cases_Bool, not-true, not_from_false, true≢false}

-- a list is empty, or has a first element
pub record Front {X : Type 0} (xs : List X) : Type 0 where
  pub first : X
  pub others : List X
  pub are : xs ≡ first ∷ others

pub empty_or_front : {X : Type 0} (xs : List X) → (xs ≡ []) ⊎ Front xs
empty_or_front [] = inl refl
empty_or_front (x ∷ xs) = inr (record { first = x; others = xs; are = refl })

-- a weaker test passes wherever a test passes
pub all_weaker : {X : Type 0} (p q : X → Bool) → ((x : X) → p x ≡ true → q x ≡ true) → (xs : List X) → list_all p xs ≡ true → list_all q xs ≡ true
all_weaker p q h [] e = refl
all_weaker p q h (x ∷ xs) e = let s = and_parts _ _ e in and_from _ _ (h x s.0) (all_weaker p q h xs s.1)

-- and one that is weaker than two
pub all_both : {X : Type 0} (p q r : X → Bool) → ((x : X) → p x ≡ true → q x ≡ true → r x ≡ true) → (xs : List X) → list_all p xs ≡ true → list_all q xs ≡ true → list_all r xs ≡ true
all_both p q r h [] e f = refl
all_both p q r h (x ∷ xs) e f =
    let s = and_parts _ _ e in
    let t = and_parts _ _ f in
    and_from _ _ (h x s.0 t.0) (all_both p q r h xs s.1 t.1)

-- where one element passes a test and all pass another, some element passes both
pub any_and_all : {X : Type 0} (p q : X → Bool) (xs : List X) → list_any p xs ≡ true → list_all q xs ≡ true → (x : X) × (p x ≡ true) × (q x ≡ true)
any_and_all p q [] e f = absurd (true≢false (sym e))
any_and_all p q (x ∷ xs) e f =
    let s = and_parts _ _ f in
    elim (or_cases _ _ e) [ inl h ↦ (x, h, s.0) | inr h ↦ any_and_all p q xs h s.1 ]

-- tests that agree where a third passes keep the same elements
pub filter_agree_on : {X : Type 0} (r p q : X → Bool) → ((x : X) → r x ≡ true → p x ≡ q x) → (xs : List X) → list_all r xs ≡ true → filter p xs ≡ filter q xs
filter_agree_on r p q h [] e = refl
filter_agree_on r p q h (x ∷ xs) e =
    let s = and_parts _ _ e in
    ap (λ b. cond b (x ∷ filter p xs) (filter p xs)) (h x s.0) ∙ ap (λ ys. cond (q x) (x ∷ ys) ys) (filter_agree_on r p q h xs s.1)

pub filter_none : {X : Type 0} (p : X → Bool) (xs : List X) → list_all (λ x. not (p x)) xs ≡ true → filter p xs ≡ []
filter_none p [] e = refl
filter_none p (x ∷ xs) e =
    let s = and_parts _ _ e in
    ap (λ b. cond b (x ∷ filter p xs) (filter p xs)) (not-true _ s.0) ∙ filter_none p xs s.1

pub filter_all : {X : Type 0} (p : X → Bool) (xs : List X) → list_all p xs ≡ true → filter p xs ≡ xs
filter_all p [] e = refl
filter_all p (x ∷ xs) e =
    let s = and_parts _ _ e in
    ap (λ b. cond b (x ∷ filter p xs) (filter p xs)) s.0 ∙ ap (λ ys. x ∷ ys) (filter_all p xs s.1)

-- what a filter keeps passes
pub filter_passes : {X : Type 0} (p : X → Bool) (xs : List X) → list_all p (filter p xs) ≡ true
filter_passes p [] = refl
filter_passes p (x ∷ xs) =
    elim (cases_Bool (p x)) [
      | inl h ↦ ap (λ b. list_all p (cond b (x ∷ filter p xs) (filter p xs))) h ∙ and_from _ _ h (filter_passes p xs)
      | inr h ↦ ap (λ b. list_all p (cond b (x ∷ filter p xs) (filter p xs))) h ∙ filter_passes p xs
    ]

-- if a filter keeps nothing, no element passes
pub none_passes : {X : Type 0} (p : X → Bool) (xs : List X) → filter p xs ≡ [] → list_all (λ x. not (p x)) xs ≡ true
none_passes p [] e = refl
none_passes p (x ∷ xs) e =
    elim (cases_Bool (p x)) [
      | inl h ↦ let f : x ∷ filter p xs ≡ [] = sym (ap (λ b. cond b (x ∷ filter p xs) (filter p xs)) h) ∙ e in cc
      | inr h ↦ and_from _ _ (not_from_false _ h) (none_passes p xs (sym (ap (λ b. cond b (x ∷ filter p xs) (filter p xs)) h) ∙ e))
    ]

-- if a filter keeps something, some element passes
pub some_passes : {X : Type 0} (p : X → Bool) (xs : List X) (y : X) (ys : List X) → filter p xs ≡ y ∷ ys → list_any p xs ≡ true
some_passes p [] y ys e = let f : [] ≡ y ∷ ys = e in cc
some_passes p (x ∷ xs) y ys e =
    elim (cases_Bool (p x)) [
      | inl h ↦ or_left _ _ h
      | inr h ↦ or_right _ _ (some_passes p xs y ys (sym (ap (λ b. cond b (x ∷ filter p xs) (filter p xs)) h) ∙ e))
    ]

-- tests that agree where a third passes find the same element
pub find_agree_on : {X : Type 0} (r p q : X → Bool) → ((x : X) → r x ≡ true → p x ≡ q x) → (xs : List X) → list_all r xs ≡ true → find p xs ≡ find q xs
find_agree_on r p q h [] e = refl
find_agree_on r p q h (x ∷ xs) e =
    let s = and_parts _ _ e in
    ap (λ b. cond b (Some x) (find p xs)) (h x s.0) ∙ ap (λ o. cond (q x) (Some x) o) (find_agree_on r p q h xs s.1)

pub find_none : {X : Type 0} (p : X → Bool) (xs : List X) → list_all (λ x. not (p x)) xs ≡ true → find p xs ≡ None
find_none p [] e = refl
find_none p (x ∷ xs) e =
    let s = and_parts _ _ e in
    ap (λ b. cond b (Some x) (find p xs)) (not-true _ s.0) ∙ find_none p xs s.1

pub or_nothing : {X : Type 0} (o : Option X) → option_or o None ≡ o
or_nothing None = refl
or_nothing (Some x) = refl
