-- What filters keep.
use Rattle.std.proofs.Common.{◌≡◌, ◌∙◌, ◌&&◌, ◌<◌, ◌≤◌, Bool, true, cond, List, [], ◌∷◌, Some, None, ap, arith, get_or, inl, inr, length, refl, subst, sym}
use Rattle.std.specs.Prelude.{filter, find}
use Rattle.std.specs.List.{Contains, list_all, list_any}
use Rattle.std.proofs.lemmas.Bool.{and_from, and_parts, cases_Bool, cond-false, cond-true, or_cases, true≢false}
use Rattle.std.proofs.lemmas.List.Elements.{All-contains, All-contains_itself, All-filter, Contains-append_right, filter_passes}
use Rattle.desk_idle.proofs.Looks.{first_or}

pub no_element : {X : Type 0} (x : X) → Contains [] x → ⊥
no_element x has = (let lt = has.1 in omega arith)

-- a list of one element
pub only_element : {X : Type 0} (xs : List X) (x : X) → 1 ≤ length xs → length xs < 2 → x ≡ get_or xs 0 x → xs ≡ x ∷ []
only_element [] x some few e = absurd (omega arith)
only_element {X = X} (y ∷ []) x some few e = ap (λ (z : X). z ∷ []) (sym e)
only_element (y ∷ z ∷ zs) x some few e = absurd (omega arith)

-- what passes is kept
pub kept_has : {X : Type 0} (p : X → Bool) (xs : List X) (x : X) → Contains xs x → p x ≡ true → Contains (filter p xs) x
kept_has p [] x has e = absurd (no_element x has)
kept_has p (y ∷ ys) x has e =
    elim (first_or y ys x has) [
      | inl is ↦ subst (λ zs. Contains zs x) (sym (cond-true (p y) (y ∷ filter p ys) (filter p ys) (ap p is ∙ e))) (0, omega arith, is)
      | inr later ↦
          let rest = kept_has p ys x later e in
          elim (cases_Bool (p y)) [
            | inl kept ↦ subst (λ zs. Contains zs x) (sym (cond-true (p y) (y ∷ filter p ys) (filter p ys) kept)) (Contains-append_right (y ∷ []) (filter p ys) x rest)
            | inr left ↦ subst (λ zs. Contains zs x) (sym (cond-false (p y) (y ∷ filter p ys) (filter p ys) left)) rest
          ]
    ]

-- what is kept is there, and passes
pub has_kept : {X : Type 0} (p : X → Bool) (xs : List X) (x : X) → Contains (filter p xs) x → Contains xs x × (p x ≡ true)
has_kept p xs x has = (
  All-contains (Contains xs) (filter p xs) x (All-filter p (Contains xs) xs (All-contains_itself xs)) has,
  All-contains (λ y. p y ≡ true) (filter p xs) x (filter_passes p xs) has,
)

-- an element that passes
pub passing : {X : Type 0} (p : X → Bool) (xs : List X) → list_any p xs ≡ true → (x : X) × Contains xs x × (p x ≡ true)
passing p [] e = absurd (true≢false (sym e))
passing p (x ∷ xs) e =
    elim (or_cases (p x) (list_any p xs) e) [
      | inl here ↦ (x, (0, omega arith, refl), here)
      | inr later ↦ (let r = passing p xs later in (r.0, Contains-append_right (x ∷ []) xs r.0 r.1, r.2))
    ]

pub all_kept : {X : Type 0} (p q : X → Bool) (xs : List X) → list_all p xs ≡ true → list_all p (filter q xs) ≡ true
all_kept p q [] e = refl
all_kept p q (x ∷ xs) e =
    let s = and_parts (p x) (list_all p xs) e in
    elim (cases_Bool (q x)) [
      | inl kept ↦ ap (list_all p) (cond-true (q x) (x ∷ filter q xs) (filter q xs) kept) ∙ and_from (p x) (list_all p (filter q xs)) s.0 (all_kept p q xs s.1)
      | inr left ↦ ap (list_all p) (cond-false (q x) (x ∷ filter q xs) (filter q xs) left) ∙ all_kept p q xs s.1
    ]

pub all_has : {X : Type 0} (p : X → Bool) (xs : List X) (x : X) → list_all p xs ≡ true → Contains xs x → p x ≡ true
all_has p [] x all has = absurd (no_element x has)
all_has p (y ∷ ys) x all has =
    let s = and_parts (p y) (list_all p ys) all in
    elim (first_or y ys x has) [
      | inl is ↦ sym (ap p is) ∙ s.0
      | inr later ↦ all_has p ys x s.1 later
    ]

-- a filter of a filter keeps what passes both
pub filter-filter : {X : Type 0} (p q : X → Bool) (xs : List X) → filter p (filter q xs) ≡ filter (λ x. q x && p x) xs
filter-filter p q [] = refl
filter-filter p q (x ∷ xs) =
    elim (cases_Bool (q x)) [
      | inl kept ↦
          ap (λ b. filter p (cond b (x ∷ filter q xs) (filter q xs))) kept ∙ ap (λ ys. cond (p x) (x ∷ ys) ys) (filter-filter p q xs)
          ∙ sym (ap (λ b. cond (b && p x) (x ∷ filter (λ y. q y && p y) xs) (filter (λ y. q y && p y) xs)) kept)
      | inr left ↦
          ap (λ b. filter p (cond b (x ∷ filter q xs) (filter q xs))) left ∙ filter-filter p q xs
          ∙ sym (ap (λ b. cond (b && p x) (x ∷ filter (λ y. q y && p y) xs) (filter (λ y. q y && p y) xs)) left)
    ]

-- what is found is the first that is kept
pub record Kept {X : Type 0} (p : X → Bool) (xs : List X) (x : X) : Type 0 where
  pub others : List X
  pub are : filter p xs ≡ x ∷ others

pub found_kept : {X : Type 0} (p : X → Bool) (xs : List X) (x : X) → find p xs ≡ Some x → Kept p xs x
found_kept p [] x e = let wrong : None ≡ Some x = e in cc
found_kept p (y ∷ ys) x e =
    elim (cases_Bool (p y)) [
      | inl here ↦
          let same : y ≡ x = (let f : Some y ≡ Some x = sym (cond-true (p y) (Some y) (find p ys) here) ∙ e in cc) in
          record { others = filter p ys; are = cond-true (p y) (y ∷ filter p ys) (filter p ys) here ∙ ap (λ z. z ∷ filter p ys) same }
      | inr later ↦
          let rest = found_kept p ys x (sym (cond-false (p y) (Some y) (find p ys) later) ∙ e) in
          record { others = rest.others; are = cond-false (p y) (y ∷ filter p ys) (filter p ys) later ∙ rest.are }
    ]
