-- The greatest weight of a list of lines, and the lines that have it.
use Rattle.std.proofs.Common.{◌≡◌, ℕ, ◌<◌, ◌≤◌, ◌&&◌, Bool, true, cond, ltb, List, [], ◌∷◌, ◌++◌, Option, Some, None, sym, ◌∙◌, ap, subst, refl, inl, inr, arith}
use Rattle.std.specs.Prelude.{filter, find, is_none, not}
use Rattle.std.specs.List.{list_any, list_all}
use Rattle.std.proofs.lemmas.Bool.{and_parts, and_from, or_cases, or_left, or_right, leb-true, le-leb, eq-eqb, ne_eqb, eqb-true, cases_Bool, cond-true, cond-false, cases_lt, lt-ltb, le-ltb, not-true, true≢false, false_from_ne_true}
use Rattle.std.proofs.lemmas.List.Folds.{list_any-append, list_all-append}
use Rattle.desk_policy.specs.declared.row.Row.{Row}
use Rattle.desk_policy.specs.Weights.{weight_of, is_at_most, is_greatest, selected}
use Rattle.desk_policy.specs.PrivateWeights.{is_same_weight, has_weight, greater, IsGreatest}

-- a weaker test passes wherever a test passes
pub list_all-weaker : {X : Type 0} (p q : X → Bool) → ((x : X) → p x ≡ true → q x ≡ true) → (xs : List X) → list_all p xs ≡ true → list_all q xs ≡ true
list_all-weaker p q h [] e = refl
list_all-weaker p q h (x ∷ xs) e = let s = and_parts _ _ e in and_from _ _ (h x s.0) (list_all-weaker p q h xs s.1)

-- where one element passes a test and all pass another, some element passes both
pub any_and_all : {X : Type 0} (p q : X → Bool) (xs : List X) → list_any p xs ≡ true → list_all q xs ≡ true → (x : X) × (p x ≡ true) × (q x ≡ true)
any_and_all p q [] e f = absurd (true≢false (sym e))
any_and_all p q (x ∷ xs) e f =
    let s = and_parts _ _ f in
    elim (or_cases _ _ e) [ inl h ↦ (x, h, s.0) | inr h ↦ any_and_all p q xs h s.1 ]

-- tests that agree on each element keep the same elements
pub filter_agree_on : {X : Type 0} (r p q : X → Bool) → ((x : X) → r x ≡ true → p x ≡ q x) → (xs : List X) → list_all r xs ≡ true → filter p xs ≡ filter q xs
filter_agree_on r p q h [] e = refl
filter_agree_on r p q h (x ∷ xs) e =
    let s = and_parts _ _ e in
    ap (λ b. cond b (x ∷ filter p xs) (filter p xs)) (h x s.0) ∙ ap (λ ys. cond (q x) (x ∷ ys) ys) (filter_agree_on r p q h xs s.1)

pub filter_none : {X : Type 0} (p : X → Bool) (xs : List X) → list_all (λ x. not (p x)) xs ≡ true → filter p xs ≡ []
filter_none p [] e = refl
filter_none p (x ∷ xs) e =
    let s = and_parts _ _ e in
    ap (λ b. cond b (x ∷ filter p xs) (filter p xs)) (not-true _ s.0) ∙ filter_none p xs s.1

-- the first that passes one test among those that pass another
pub find-filter : {X : Type 0} (p q : X → Bool) (xs : List X) → find p (filter q xs) ≡ find (λ x. q x && p x) xs
find-filter p q [] = refl
find-filter p q (x ∷ xs) =
    elim (cases_Bool (q x)) [
      | inl h ↦ ap (λ b. find p (cond b (x ∷ filter q xs) (filter q xs))) h ∙ ap (cond (p x) (Some x)) (find-filter p q xs) ∙ sym (ap (λ b. cond (b && p x) (Some x) (find (λ y. q y && p y) xs)) h)
      | inr h ↦ ap (λ b. find p (cond b (x ∷ filter q xs) (filter q xs))) h ∙ find-filter p q xs ∙ sym (ap (λ b. cond (b && p x) (Some x) (find (λ y. q y && p y) xs)) h)
    ]

-- the first of a filter
pub find_front : {X : Type 0} (q : X → Bool) (xs : List X) → find (λ _. true) (filter q xs) ≡ find q xs
find_front q [] = refl
find_front q (x ∷ xs) =
    elim (cases_Bool (q x)) [
      | inl h ↦ ap (λ b. find (λ _. true) (cond b (x ∷ filter q xs) (filter q xs))) h ∙ sym (ap (λ b. cond b (Some x) (find q xs)) h)
      | inr h ↦ ap (λ b. find (λ _. true) (cond b (x ∷ filter q xs) (filter q xs))) h ∙ find_front q xs ∙ sym (ap (λ b. cond b (Some x) (find q xs)) h)
    ]

at_most_more : (o : Option ℕ) (v w : ℕ) → v ≤ w → is_at_most o v ≡ true → is_at_most o w ≡ true
at_most_more None v w le e = refl
at_most_more (Some u) v w le e = le-leb u w (let h = leb-true u v e in omega arith)

none_at_most : (o : Option ℕ) (w : ℕ) → is_none o ≡ true → is_at_most o w ≡ true
none_at_most None w e = refl
none_at_most (Some u) w e = absurd (true≢false (sym e))

-- one more line
greatest_at : (rows : List Row) (address : ℕ) (row : Row) (found o : Option ℕ) → weight_of row address ≡ o → IsGreatest rows address found → IsGreatest (rows ++ row ∷ []) address (greater found o)
greatest_at rows address row None None is h =
    list_all-append _ rows (row ∷ []) ∙ and_from _ _ h (and_from _ _ (ap is_none is) refl)
greatest_at rows address row None (Some w) is h = (
  list_any-append _ rows (row ∷ []) ∙ or_right _ _ (or_left _ _ (ap (λ o. is_same_weight o w) is ∙ eq-eqb w w refl)),
  list_all-append _ rows (row ∷ []) ∙ and_from _ _ (list_all-weaker _ _ (λ other e. none_at_most _ w e) rows h) (and_from _ _ (ap (λ o. is_at_most o w) is ∙ le-leb w w (omega arith)) refl),
)
greatest_at rows address row (Some v) None is h = (
  list_any-append _ rows (row ∷ []) ∙ or_left _ _ h.0,
  list_all-append _ rows (row ∷ []) ∙ and_from _ _ h.1 (and_from _ _ (ap (λ o. is_at_most o v) is) refl),
)
greatest_at rows address row (Some v) (Some w) is h =
    elim (cases_lt v w) [
      | inl lt ↦ subst (IsGreatest (rows ++ row ∷ []) address) (sym (cond-true (ltb v w) (Some w) (Some v) (lt-ltb v w lt))) (
        list_any-append _ rows (row ∷ []) ∙ or_right _ _ (or_left _ _ (ap (λ o. is_same_weight o w) is ∙ eq-eqb w w refl)),
        list_all-append _ rows (row ∷ []) ∙ and_from _ _ (list_all-weaker _ _ (λ other e. at_most_more _ v w (omega arith) e) rows h.1) (and_from _ _ (ap (λ o. is_at_most o w) is ∙ le-leb w w (omega arith)) refl),
      )
      | inr le ↦ subst (IsGreatest (rows ++ row ∷ []) address) (sym (cond-false (ltb v w) (Some w) (Some v) (le-ltb v w le))) (
        list_any-append _ rows (row ∷ []) ∙ or_left _ _ h.0,
        list_all-append _ rows (row ∷ []) ∙ and_from _ _ h.1 (and_from _ _ (ap (λ o. is_at_most o v) is ∙ le-leb w v le) refl),
      )
    ]

pub IsGreatest-push : (rows : List Row) (address : ℕ) (row : Row) (found : Option ℕ) → IsGreatest rows address found → IsGreatest (rows ++ row ∷ []) address (greater found (weight_of row address))
IsGreatest-push rows address row found h = greatest_at rows address row found (weight_of row address) refl h

heavier_apart : (o : Option ℕ) (v w : ℕ) → v < w → is_same_weight o w ≡ true → is_at_most o v ≡ true → ⊥
heavier_apart None v w lt e f = true≢false (sym e)
heavier_apart (Some u) v w lt e f = let a = eqb-true u w e in let b = leb-true u v f in absurd (omega arith)

none_not_greatest : (rows : List Row) (address : ℕ) (o : Option ℕ) → is_none o ≡ true → not (is_greatest rows address o) ≡ true
none_not_greatest rows address None e = refl
none_not_greatest rows address (Some w) e = absurd (true≢false (sym e))

-- a line weighs the greatest weight exactly where no line weighs more
greatest_agrees : (rows : List Row) (address weight : ℕ) → IsGreatest rows address (Some weight) → (o : Option ℕ) → is_at_most o weight ≡ true → is_greatest rows address o ≡ is_same_weight o weight
greatest_agrees rows address weight h None e = refl
greatest_agrees rows address weight h (Some v) e =
    elim (cases_lt v weight) [
      | inl lt ↦ false_from_ne_true _ (λ all.
          let w = any_and_all (has_weight address weight) (λ other. is_at_most (weight_of other address) v) rows h.0 all in
          heavier_apart (weight_of w.0 address) v weight lt w.1 w.2) ∙ sym (ne_eqb v weight (λ is. omega arith))
      | inr le ↦
          let is : v ≡ weight = (let b = leb-true v weight e in omega arith) in
          ap (λ u. is_greatest rows address (Some u)) is ∙ h.1 ∙ sym (eq-eqb v weight is)
    ]

-- where no line matches, none is selected
pub selected-none : (rows : List Row) (address : ℕ) → IsGreatest rows address None → selected rows address ≡ []
unfolding selected
selected-none rows address h =
    filter_none _ rows (list_all-weaker (λ row. is_none (weight_of row address)) (λ row. not (is_greatest rows address (weight_of row address)))
    (λ row e. none_not_greatest rows address (weight_of row address) e) rows h)

-- the selected lines are those of the greatest weight
pub selected-some : (rows : List Row) (address weight : ℕ) → IsGreatest rows address (Some weight) → selected rows address ≡ filter (has_weight address weight) rows
unfolding selected
selected-some rows address weight h =
    filter_agree_on (λ row. is_at_most (weight_of row address) weight) _ _ (λ row e. greatest_agrees rows address weight h (weight_of row address) e) rows h.1
