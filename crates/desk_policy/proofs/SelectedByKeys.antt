-- The lines that are selected for an address are those that have the heaviest key.
use Rattle.std.proofs.Common.{◌≡◌, ℕ, zero, suc, ◌<◌, ◌≤◌, ◌^◌, Bool, true, cond, List, [], ◌∷◌, length, get_or, Option, Some, None, IfSome, sym, ◌∙◌, ap, subst, refl, inl, inr, arith}
use Rattle.std.specs.Prelude.{filter, is_none}
use Rattle.std.specs.Option.{is_some}
use Rattle.std.specs.List.{list_any, list_all, All}
use Rattle.std.proofs.lemmas.Bool.{and_from, or_cases, or_left, or_right, cases_Bool, true≢false, both_ways, false_from_ne_true, le-leb, eqb-true, eq-eqb}
use Rattle.std.proofs.lemmas.List.Elements.{All-head, All-tail}
use Rattle.desk_policy.specs.declared.row.Row.{Row}
use Rattle.desk_policy.specs.Weights.{weight_of, is_at_most, selected}
use Rattle.desk_policy.specs.PrivateWeights.{is_same_weight, has_weight, IsGreatest}
use Rattle.desk_policy.specs.Keys.{LineKey, IsLineKey, key_weight, has_key, HasBlock, is_used, IsHeaviestKey, HasNoKey, LinesAreSelectedByKeys}
use Rattle.desk_policy.proofs.ByKeys.{key_is, key_of, weight_from}
use Rattle.desk_policy.proofs.GreatestWeight.{selected-none, selected-some}

-- ---- lists

all_from : {X : Type 0} (p : X → Bool) (xs : List X) → All (λ x. p x ≡ true) xs → list_all p xs ≡ true
all_from p [] h = refl
all_from p (x ∷ xs) h = and_from _ _ (All-head (λ y. p y ≡ true) x xs h) (all_from p xs (All-tail (λ y. p y ≡ true) x xs h))

any_weaker : {X : Type 0} (p q : X → Bool) → ((x : X) → p x ≡ true → q x ≡ true) → (xs : List X) → list_any p xs ≡ true → list_any q xs ≡ true
any_weaker p q h [] e = absurd (true≢false (sym e))
any_weaker p q h (x ∷ xs) e = elim (or_cases (p x) (list_any p xs) e) [ inl t ↦ or_left _ _ (h x t) | inr t ↦ or_right _ _ (any_weaker p q h xs t) ]

any_at : {X : Type 0} (p : X → Bool) (xs : List X) (k : ℕ) (d : X) → k < length xs → p (get_or xs k d) ≡ true → list_any p xs ≡ true
any_at p [] k d l e = absurd (omega arith)
any_at p (x ∷ xs) zero d l e = or_left _ _ e
any_at p (x ∷ xs) (suc k) d l e = or_right (p x) _ (any_at p xs k d (omega arith) e)

filter_agree : {X : Type 0} (p q : X → Bool) (xs : List X) → All (λ x. p x ≡ q x) xs → filter p xs ≡ filter q xs
filter_agree p q [] h = refl
filter_agree p q (x ∷ xs) h =
    ap (λ b. cond b (x ∷ filter p xs) (filter p xs)) (All-head (λ y. p y ≡ q y) x xs h) ∙ ap (λ ys. cond (q x) (x ∷ ys) ys) (filter_agree p q xs (All-tail (λ y. p y ≡ q y) x xs h))

-- ---- weights

is_same : (o : Option ℕ) (w : ℕ) → o ≡ Some w → is_same_weight o w ≡ true
is_same o w e = ap (λ p. is_same_weight p w) e ∙ eq-eqb w w refl

same_is : (o : Option ℕ) (w : ℕ) → is_same_weight o w ≡ true → o ≡ Some w
same_is None w e = absurd (true≢false (sym e))
same_is (Some v) w e = ap (λ (n : ℕ). Some n) (eqb-true v w e)

at_most_by : (o : Option ℕ) (weight : ℕ) → ((v : ℕ) → o ≡ Some v → v ≤ weight) → is_at_most o weight ≡ true
at_most_by None weight h = refl
at_most_by (Some v) weight h = le-leb v weight (h v refl)

none_by : (o : Option ℕ) → ((v : ℕ) → o ≡ Some v → ⊥) → is_none o ≡ true
none_by None h = refl
none_by (Some v) h = absurd (h v refl)

if_some_at : (o : Option ℕ) (v : ℕ) (P : ℕ → Type 0) → o ≡ Some v → IfSome o P → P v
if_some_at None v P e h = cc
if_some_at (Some u) v P e h = subst P (let f : Some u ≡ Some v = e in cc) h

module _ (rows : List Row) (address : ℕ) (small : address < 2 ^ 32) (blocks : All (λ (row : Row). HasBlock row.entry.clients) rows) where
  -- a line that matches the address has a key that does so with its weight
  there : (k : ℕ) (d : Row) (weight : ℕ) → k < length rows → weight_of (get_or rows k d) address ≡ Some weight
      → (key : LineKey) × IsLineKey key × (has_key key (get_or rows k d) ≡ true) × (key_weight address key ≡ Some weight) × (is_used key rows ≡ true)
  there k d weight l e =
      let row = get_or rows k d in
      let found = key_of address row.entry.clients row.addrs weight small (blocks k d l) e in
      (found.0, found.1, found.2, found.3, any_at (has_key found.0) rows k d l found.2)

  none_selected : HasNoKey rows address → selected rows address ≡ []
  none_selected none =
      selected-none rows address (all_from (λ row. is_none (weight_of row address)) rows
      (λ k d l. none_by (weight_of (get_or rows k d) address) (λ v e.
      let found = there k d v l e in
      true≢false (sym found.4 ∙ none found.0 found.1 (ap is_some found.3)))))

  module _ (key : LineKey) (heaviest : IsHeaviestKey rows address key) where
    greatest : IsGreatest rows address (Some heaviest.weight)
    greatest = (
      any_weaker (has_key key) (has_weight address heaviest.weight)
          (λ row h. is_same (weight_of row address) heaviest.weight (weight_from address row.entry.clients row.addrs key heaviest.weight h heaviest.matches)) rows heaviest.used,
      all_from (λ other. is_at_most (weight_of other address) heaviest.weight) rows
          (λ k d l. at_most_by (weight_of (get_or rows k d) address) heaviest.weight (λ v e.
          let found = there k d v l e in
          if_some_at (key_weight address found.0) v (λ w. w ≤ heaviest.weight) found.3 (heaviest.most found.0 found.1 found.4))),
    )

    -- a line weighs the greatest weight exactly if it has the key
    weighs_by_key : (k : ℕ) (d : Row) → k < length rows → has_weight address heaviest.weight (get_or rows k d) ≡ has_key key (get_or rows k d)
    weighs_by_key k d l =
        let row = get_or rows k d in
        elim (cases_Bool (has_key key row)) [
          | inl t ↦ is_same (weight_of row address) heaviest.weight (weight_from address row.entry.clients row.addrs key heaviest.weight t heaviest.matches) ∙ sym t
          | inr f ↦ false_from_ne_true (has_weight address heaviest.weight row) (λ w.
              let found = there k d heaviest.weight l (same_is (weight_of row address) heaviest.weight w) in
              let one : found.0 ≡ key = key_is address found.0 heaviest.weight found.1 found.3 ∙ sym (key_is address key heaviest.weight heaviest.is_key heaviest.matches) in
              both_ways (has_key key row) f (ap (λ k. has_key k row) (sym one) ∙ found.2)) ∙ sym f
        ]

    selected_by_key : selected rows address ≡ filter (has_key key) rows
    selected_by_key =
        selected-some rows address heaviest.weight greatest ∙ filter_agree (has_weight address heaviest.weight) (has_key key) rows weighs_by_key

pub lines_are_selected_by_keys : LinesAreSelectedByKeys
lines_are_selected_by_keys rows address small blocks = record { some = selected_by_key rows address small blocks; none = none_selected rows address small blocks }
