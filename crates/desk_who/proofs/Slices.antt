-- The part of ascending addresses that lies between two.
use Rattle.std.proofs.Common.{◌≡◌, ℕ, zero, suc, ◌<◌, ◌≤◌, ◌&&◌, Bool, true, false, cond, List, [], ◌∷◌, take, drop, length, map, get_or, sym, ◌∙◌, ap, refl, inl, inr, arith}
use Rattle.std.specs.Prelude.{filter, nat_le, nat_lt}
use Rattle.std.specs.List.Sorted.{IsPartitionPoint, IsPartitionedBy, IsStrictlyIncreasing}
use Rattle.std.proofs.lemmas.Bool.{cases_Bool, cases_lt, false_from_ne_true, le-leb, leb-true, lt-ltb, ltb-false, ltb-true}
use Rattle.std.proofs.lemmas.List.{get_or-map, get_or-take, length-map, length-take}
use Rattle.std.proofs.lemmas.Map.Keys.{below_from_sorted, sorted_from_strictly_increasing}
use Rattle.desk_text.specs.Address.{number_of}
use Rattle.desk_text.specs.declared.address.Addr.{Addr}
use Rattle.desk_who.specs.PrivateStarts.{is_between}

module _ {X : Type 0} (p : X → Bool) where
  abbrev PassUpTo : List X → ℕ → Type 0
  PassUpTo xs k = IsPartitionPoint (λ y. p y ≡ true) (λ y. p y ≡ false) xs k

  -- where those that pass come first
  pub first_pass : (xs : List X) (k : ℕ) → PassUpTo xs k → k ≤ length xs → filter p xs ≡ take k xs
  first_pass [] zero point le = refl
  first_pass [] (suc k) point le = absurd (omega arith)
  first_pass (x ∷ xs) zero point le =
      let fails : p x ≡ false = point.1 0 x (omega arith) (omega arith) in
      ap (λ b. cond b (x ∷ filter p xs) (filter p xs)) fails
      ∙ first_pass xs zero (λ i d low high. absurd (omega arith), λ i d low high. point.1 (suc i) d (omega arith) (omega arith)) (omega arith)
  first_pass (x ∷ xs) (suc k) point le =
      let passes : p x ≡ true = point.0 0 x (omega arith) (omega arith) in
      ap (λ b. cond b (x ∷ filter p xs) (filter p xs)) passes
      ∙ ap (λ ys. x ∷ ys) (first_pass xs k (λ i d low high. point.0 (suc i) d (omega arith) (omega arith), λ i d low high. point.1 (suc i) d (omega arith) (omega arith)) (omega arith))

  abbrev PassFrom : List X → ℕ → Type 0
  PassFrom xs k = IsPartitionPoint (λ y. p y ≡ false) (λ y. p y ≡ true) xs k

  -- where they come last
  pub last_pass : (xs : List X) (k : ℕ) → PassFrom xs k → k ≤ length xs → filter p xs ≡ drop k xs
  last_pass [] zero point le = refl
  last_pass [] (suc k) point le = absurd (omega arith)
  last_pass (x ∷ xs) zero point le =
      let passes : p x ≡ true = point.1 0 x (omega arith) (omega arith) in
      ap (λ b. cond b (x ∷ filter p xs) (filter p xs)) passes
      ∙ ap (λ ys. x ∷ ys) (last_pass xs zero (λ i d low high. absurd (omega arith), λ i d low high. point.1 (suc i) d (omega arith) (omega arith)) (omega arith))
  last_pass (x ∷ xs) (suc k) point le =
      let fails : p x ≡ false = point.0 0 x (omega arith) (omega arith) in
      ap (λ b. cond b (x ∷ filter p xs) (filter p xs)) fails
      ∙ last_pass xs k (λ i d low high. point.0 (suc i) d (omega arith) (omega arith), λ i d low high. point.1 (suc i) d (omega arith) (omega arith)) (omega arith)

-- what is kept of lent values is what is kept of them by value
map-filter : {X Y : Type 0} (f : X → Y) (test : Y → Bool) (xs : List X) → map f (filter (λ x. test (f x)) xs) ≡ filter test (map f xs)
map-filter f test [] = refl
map-filter f test (x ∷ xs) =
    let rest = map-filter f test xs in
    elim (cases_Bool (test (f x))) as (λ _. map f (filter (λ y. test (f y)) (x ∷ xs)) ≡ filter test (map f (x ∷ xs))) [
      | inl is ↦ rw is (ap (λ ys. f x ∷ ys) rest)
      | inr not ↦ rw not rest
    ]

-- what passes two tests passes one of what passes the other
filter_both : {X : Type 0} (p q : X → Bool) (xs : List X) → filter (λ x. p x && q x) xs ≡ filter p (filter q xs)
filter_both p q [] = refl
filter_both p q (x ∷ xs) =
    let rest = filter_both p q xs in
    elim (cases_Bool (q x)) as (λ _. filter (λ y. p y && q y) (x ∷ xs) ≡ filter p (filter q (x ∷ xs))) [
      | inl is ↦ elim (cases_Bool (p x)) as (λ _. filter (λ y. p y && q y) (x ∷ xs) ≡ filter p (filter q (x ∷ xs))) [
        | inl is' ↦ rw (is, is') (ap (λ ys. x ∷ ys) rest)
        | inr not ↦ rw (is, not) rest
      ]
      | inr not ↦ elim (cases_Bool (p x)) as (λ _. filter (λ y. p y && q y) (x ∷ xs) ≡ filter p (filter q (x ∷ xs))) [
        | inl is' ↦ rw (not, is') rest
        | inr not' ↦ rw (not, not') rest
      ]
    ]

-- ---- ascending addresses
rising : (xs : List ℕ) → IsStrictlyIncreasing xs → (i j : ℕ) → i ≤ j → j < length xs → get_or xs i 0 ≤ get_or xs j 0
rising xs up i j le within =
    elim (cases_lt i j) [
      | inl less ↦ (let h = below_from_sorted xs i j 0 (sorted_from_strictly_increasing xs up) less within in omega arith)
      | inr ge ↦ (let e : get_or xs i 0 ≡ get_or xs j 0 = ap (λ n. get_or xs n 0) (let s : i ≡ j = omega arith in s) in omega arith)
    ]

module _ (items : List Addr) (up : IsStrictlyIncreasing (map number_of items)) where
  rises : (i j : ℕ) (d : Addr) → i ≤ j → j < length items → number_of (get_or items i d) ≤ number_of (get_or items j d)
  rises i j d le within =
      let few : length (map number_of items) ≡ length items = length-map items number_of in
      let r = rising (map number_of items) up i j le (omega arith) in
      let a = get_or-map number_of items i d 0 (omega arith) in
      let b = get_or-map number_of items j d 0 within in
      omega arith

  -- those up to one come first
  pub up_to_parted : (last : ℕ) → IsPartitionedBy (λ (a : Addr). nat_le (number_of a) last) items
  up_to_parted last i j d le within passes =
      let r = rises i j d le within in
      let l = leb-true (number_of (get_or items j d)) last passes in
      le-leb (number_of (get_or items i d)) last (omega arith)

-- ---- between
abbrev pub up_to : ℕ → Addr → Bool
up_to last address = nat_le (number_of address) last

abbrev pub is_before : ℕ → Addr → Bool
is_before first address = nat_lt (number_of address) first

abbrev pub from : ℕ → Addr → Bool
from first address = nat_le first (number_of address)

module _ (items below : List Addr) (end : ℕ) (up : IsStrictlyIncreasing (map number_of items)) (taken : below ≡ take end items) where
  short : length below ≤ length items
  short = omega (arith, ap length taken, length-take end items)

  taken_at : (i : ℕ) (d : Addr) → i < length below → get_or below i d ≡ get_or items i d
  taken_at i d within = ap (λ xs. get_or xs i d) taken ∙ get_or-take end items i d (omega (arith, ap length taken, length-take end items))

  -- of those, the ones before another come first
  pub before_parted : (first : ℕ) → IsPartitionedBy (is_before first) below
  before_parted first i j d le within passes =
      let r = rises items up i j d le (omega (arith, short)) in
      let a = ap number_of (taken_at i d (omega arith)) in
      let b = ap number_of (taken_at j d within) in
      let l = ltb-true (number_of (get_or below j d)) first passes in
      lt-ltb (number_of (get_or below i d)) first (omega arith)

  pub between_is : (part : List Addr) (first last begin : ℕ) → part ≡ drop begin below → end ≤ length items → begin ≤ length below
      → PassUpTo (up_to last) items end → PassUpTo (is_before first) below begin → map number_of part ≡ filter (is_between first last) (map number_of items)
  between_is part first last begin dropped le le' upper lower =
      let own : PassFrom (from first) below begin = (
        λ i d low high. (let l = ltb-true (number_of (get_or below i d)) first (lower.0 i d low high) in false_from_ne_true (nat_le first (number_of (get_or below i d))) (λ is. let m = leb-true first (number_of (get_or below i d)) is in omega arith)),
        λ i d low high. (let l = ltb-false (number_of (get_or below i d)) first (lower.1 i d low high) in le-leb first (number_of (get_or below i d)) (omega arith)),
      ) in
      ap (map number_of)
      (dropped ∙ sym (last_pass (from first) below begin own le') ∙ ap (filter (from first)) (taken ∙ sym (first_pass (up_to last) items end upper le))
      ∙ sym (filter_both (from first) (up_to last) items))
      ∙ map-filter number_of (is_between first last) items
