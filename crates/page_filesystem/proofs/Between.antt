-- What has a key, where values ascend by their keys.
use Rattle.std.proofs.Common.{◌≡◌, ℕ, zero, suc, ◌<◌, ◌≤◌, ◌&&◌, ◌∙◌, Bool, true, false, cond, List, [], ◌∷◌, ap, arith, drop, get_or, inl, inr, length, refl, sym, take}
use Rattle.std.specs.Prelude.{◌==◌, filter, nat_le, nat_lt, not}
use Rattle.std.specs.List.{AllPairs}
use Rattle.std.specs.List.Sorted.{IsPartitionPoint, IsPartitionedBy}
use Rattle.std.proofs.lemmas.Bool.{and_from, cases_order, eq-eqb, le-leb, le-ltb, leb-true, lt-leb, lt-ltb, ltb-true, ne_eqb}
use Rattle.std.proofs.lemmas.List.{get_or-take, length-take}
use Rattle.std.proofs.lemmas.List.Elements.{filter_agree}

module _ {X : Type 0} (p : X → Bool) where
  -- where those that pass come first
  first_pass : (xs : List X) (k : ℕ) → IsPartitionPoint (λ y. p y ≡ true) (λ y. p y ≡ false) xs k → k ≤ length xs → filter p xs ≡ take k xs
  first_pass [] zero point le = refl
  first_pass [] (suc k) point le = absurd (omega arith)
  first_pass (x ∷ xs) zero point le =
      let fails : p x ≡ false = point.1 0 x (omega arith) (omega arith) in
      ap (λ b. cond b (x ∷ filter p xs) (filter p xs)) fails
      ∙ first_pass xs zero (λ i d low high. absurd (omega arith), λ i d low high. point.1 (suc i) d (omega arith) (omega arith)) (omega arith)
  first_pass (x ∷ xs) (suc k) point le =
      let passes : p x ≡ true = point.0 0 x (omega arith) (omega arith) in
      ap (λ b. cond b (x ∷ filter p xs) (filter p xs)) passes
      ∙ ap (λ ys. x ∷ ys) (first_pass xs k (λ i d low high. point.0 (suc i) d (omega arith) (omega arith), λ i d low high. point.1 (suc i) d (omega arith) (omega arith)) (omega arith))

  -- where they come last
  last_pass : (xs : List X) (k : ℕ) → IsPartitionPoint (λ y. p y ≡ false) (λ y. p y ≡ true) xs k → k ≤ length xs → filter p xs ≡ drop k xs
  last_pass [] zero point le = refl
  last_pass [] (suc k) point le = absurd (omega arith)
  last_pass (x ∷ xs) zero point le =
      let passes : p x ≡ true = point.1 0 x (omega arith) (omega arith) in
      ap (λ b. cond b (x ∷ filter p xs) (filter p xs)) passes
      ∙ ap (λ ys. x ∷ ys) (last_pass xs zero (λ i d low high. absurd (omega arith), λ i d low high. point.1 (suc i) d (omega arith) (omega arith)) (omega arith))
  last_pass (x ∷ xs) (suc k) point le =
      let fails : p x ≡ false = point.0 0 x (omega arith) (omega arith) in
      ap (λ b. cond b (x ∷ filter p xs) (filter p xs)) fails
      ∙ last_pass xs k (λ i d low high. point.0 (suc i) d (omega arith) (omega arith), λ i d low high. point.1 (suc i) d (omega arith) (omega arith)) (omega arith)

-- what passes two tests passes one of what passes the other
filter_both : {X : Type 0} (p q : X → Bool) (xs : List X) → filter (λ x. p x && q x) xs ≡ filter p (filter q xs)
filter_both p q [] = refl
filter_both p q (x ∷ xs) = by (p x) (q x) refl (filter_both p q xs)
  where
    by : (a b : Bool) → p x ≡ a → filter (λ y. p y && q y) xs ≡ filter p (filter q xs)
        → cond (a && b) (x ∷ filter (λ y. p y && q y) xs) (filter (λ y. p y && q y) xs) ≡ filter p (cond b (x ∷ filter q xs) (filter q xs))
    by true true e rest = ap (λ ys. x ∷ ys) rest ∙ sym (ap (λ b. cond b (x ∷ filter p (filter q xs)) (filter p (filter q xs))) e)
    by true false e rest = rest
    by false true e rest = rest ∙ sym (ap (λ b. cond b (x ∷ filter p (filter q xs)) (filter p (filter q xs))) e)
    by false false e rest = rest

one_key : (key number : ℕ) → (number == key) ≡ (not (nat_lt number key) && nat_le number key)
one_key key number =
    elim (cases_order number key) as (λ _. (number == key) ≡ (not (nat_lt number key) && nat_le number key)) [
      | inl same ↦ eq-eqb number key same ∙ sym (and_from (not (nat_lt number key)) (nat_le number key) (ap not (le-ltb number key (omega arith))) (le-leb number key (omega arith)))
      | inr apart ↦ elim apart as (λ _. (number == key) ≡ (not (nat_lt number key) && nat_le number key)) [
        | inl less ↦ ne_eqb number key (λ is. omega arith) ∙ sym (ap (λ b. not b && nat_le number key) (lt-ltb number key less))
        | inr more ↦ ne_eqb number key (λ is. omega arith) ∙ sym (ap (λ b. not (nat_lt number key) && b) (lt-leb number key more) ∙ ap (λ b. not b && false) (le-ltb number key (omega arith)))
      ]
    ]

module _ {X : Type 0} (key_of : X → ℕ) where
  abbrev pub up_to : ℕ → X → Bool
  up_to key x = nat_le (key_of x) key

  abbrev pub is_before : ℕ → X → Bool
  is_before key x = nat_lt (key_of x) key

  module _ (xs : List X) (ascend : AllPairs (λ x later. key_of x ≤ key_of later) xs) (key : ℕ) where
    rises : (i j : ℕ) (d : X) → i ≤ j → j < length xs → key_of (get_or xs i d) ≤ key_of (get_or xs j d)
    rises i j d le within =
        elim (cases_order i j) as (λ _. key_of (get_or xs i d) ≤ key_of (get_or xs j d)) [
          | inl same ↦ omega (arith, ap (λ n. key_of (get_or xs n d)) same)
          | inr apart ↦ elim apart as (λ _. key_of (get_or xs i d) ≤ key_of (get_or xs j d)) [
            | inl less ↦ ascend i j d less within
            | inr more ↦ absurd (omega arith)
          ]
        ]

    pub up_to_parted : IsPartitionedBy (up_to key) xs
    up_to_parted i j d le within passes =
        let up = rises i j d le within in
        let l = leb-true (key_of (get_or xs j d)) key passes in
        le-leb (key_of (get_or xs i d)) key (omega arith)

    pub before_parted : (end : ℕ) → IsPartitionedBy (is_before key) (take end xs)
    before_parted end i j d le within passes =
        let few = length-take end xs in
        let up = rises i j d le (omega arith) in
        let left = ap key_of (get_or-take end xs i d (omega arith)) in
        let right = ap key_of (get_or-take end xs j d (omega arith)) in
        let l = ltb-true (key_of (get_or (take end xs) j d)) key passes in
        lt-ltb (key_of (get_or (take end xs) i d)) key (omega arith)

    -- the part between two binary searches
    pub between_is : (end begin : ℕ) → end ≤ length xs → begin ≤ length (take end xs) → IsPartitionPoint (λ x. up_to key x ≡ true) (λ x. up_to key x ≡ false) xs end
        → IsPartitionPoint (λ x. is_before key x ≡ true) (λ x. is_before key x ≡ false) (take end xs) begin → drop begin (take end xs) ≡ filter (λ x. key_of x == key) xs
    between_is end begin le le' upper lower =
        sym (last_pass (λ x. not (is_before key x)) (take end xs) begin (λ i d low high. ap not (lower.0 i d low high), λ i d low high. ap not (lower.1 i d low high)) le')
        ∙ ap (filter (λ x. not (is_before key x))) (sym (first_pass (up_to key) xs end upper le))
        ∙ sym (filter_both (λ x. not (is_before key x)) (up_to key) xs)
        ∙ sym (filter_agree (λ (x : X). key_of x == key) (λ x. not (is_before key x) && up_to key x) (λ x. one_key key (key_of x)) xs)
