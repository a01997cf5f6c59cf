-- Sorted sets of numbers: for `addr_set::AddrSet` and the law `sorted_sets_are_unique`.
use Rattle.std.proofs.Common.{zero, suc, ◌≡◌, ◌≢◌, ℕ, ◌+◌, ◌<◌, ◌≤◌, ◌||◌, Bool, true, false, eqb, ltb, List, [], ◌∷◌, length, get_or, map, sym, ◌∙◌, ap, subst, refl, inl, inr, arith}
use Rattle.std.specs.Prelude.{Result, Ok, Err, is_ok, ◌==◌}
use Rattle.std.specs.List.{list_any, dedup, dedup_from, AllWithin}
use Rattle.std.specs.List.Sorted.{IsStrictlyIncreasing, IsSorted, IsPermutation, IsBinarySearchResult, IsSearchInRange}
use Rattle.std.specs.List.Retain.{IsFiltered, DiffersFromLast}
use Rattle.std.specs.Ordering.{nat_cmp, is_lt}
use Rattle.std.specs.declared.cmp.Ordering.{Ordering}
use Rattle.std.proofs.lemmas.List.{get_or-map, length-map}
use Rattle.std.proofs.lemmas.List.Filters.{dedup_is}
use Rattle.std.proofs.lemmas.List.Sorted.{IsPermutation-map, list_any-IsPermutation, searchable_from_sorted}
use Rattle.std.proofs.lemmas.Map.Keys.{IsStrictlyIncreasing-dedup}
use Rattle.std.proofs.lemmas.Bool.{cases_Bool, cases_eq, cases_lt, cases_order, cond-true, cond-false, lt-ltb, le-ltb, eq-eqb, ne_eqb, or_left, true≢false}
use Rattle.std.proofs.lemmas.List.Folds.{list_any_at, list_any_none}
use Rattle.std.proofs.lemmas.Cmp.{nat_cmp_total}
use Rattle.std.specs.Cmp.{nat_cmp_is}
use Rattle.std.specs.declared.cmp.Ordering.TheVariants.{Less, Equal, Greater}
use Rattle.desk_text.specs.AddrSet.{insert_sorted, is_among, sorted_set}
use Rattle.desk_text.specs.Laws.{IsSetOf, SortedSetsAreUnique}

-- each of these is above the number
abbrev pub AllAbove : ℕ → List ℕ → Type 0
AllAbove x [] = Unit {0}
AllAbove x (y ∷ ys) = (x < y) × AllAbove x ys

-- each number is below all later ones
abbrev pub Rises : List ℕ → Type 0
Rises [] = Unit {0}
Rises (x ∷ xs) = AllAbove x xs × Rises xs

above_more : (x y : ℕ) (ys : List ℕ) → x ≤ y → AllAbove y ys → AllAbove x ys
above_more x y [] le h = tt
above_more x y (z ∷ ys) le h = (omega (arith, h.0), above_more x y ys le h.1)

above_lacks : (x y : ℕ) (ys : List ℕ) → x ≤ y → AllAbove y ys → is_among x ys ≡ false
above_lacks x y [] le h = refl
above_lacks x y (z ∷ ys) le h =
    let lt : y < z = h.0 in
    ap (λ b. b || is_among x ys) (ne_eqb z x (λ is. omega arith)) ∙ above_lacks x y ys le h.1

-- a rising list does not have its first number again
first_lacks : (x : ℕ) (xs : List ℕ) → AllAbove x xs → is_among x xs ≡ false
first_lacks x xs h = above_lacks x x xs (omega arith) h

above_put : (x n : ℕ) (ys : List ℕ) → x < n → AllAbove x ys → AllAbove x (insert_sorted n ys)
above_put x n [] lt h = (lt, tt)
above_put x n (y ∷ ys) lt h =
    elim (cases_order n y) [
      | inl is ↦ subst (AllAbove x) (sym (cond-false (ltb n y) _ _ (le-ltb n y (omega arith)) ∙ cond-true (eqb n y) _ _ (eq-eqb n y is))) h
      | inr (inl below) ↦ subst (AllAbove x) (sym (cond-true (ltb n y) _ _ (lt-ltb n y below))) (lt, h)
      | inr (inr over) ↦ subst (AllAbove x) (sym (cond-false (ltb n y) _ _ (le-ltb n y (omega arith)) ∙ cond-false (eqb n y) _ _ (ne_eqb n y (λ is. omega arith)))) (h.0, above_put x n ys lt h.1)
    ]

put_rises : (n : ℕ) (xs : List ℕ) → Rises xs → Rises (insert_sorted n xs)
put_rises n [] h = (tt, tt)
put_rises n (y ∷ ys) h =
    elim (cases_order n y) [
      | inl is ↦ subst Rises (sym (cond-false (ltb n y) _ _ (le-ltb n y (omega arith)) ∙ cond-true (eqb n y) _ _ (eq-eqb n y is))) h
      | inr (inl below) ↦ subst Rises (sym (cond-true (ltb n y) _ _ (lt-ltb n y below))) ((below, above_more n y ys (omega arith) h.0), h)
      | inr (inr over) ↦ subst Rises (sym (cond-false (ltb n y) _ _ (le-ltb n y (omega arith)) ∙ cond-false (eqb n y) _ _ (ne_eqb n y (λ is. omega arith)))) (above_put y n ys over h.0, put_rises n ys h.1)
    ]

-- the same number twice in a row
or_twice : (b c : Bool) → (b || c) ≡ (b || (b || c))
or_twice true c = refl
or_twice false c = refl

or_swap : (a b c : Bool) → (a || (b || c)) ≡ (b || (a || c))
or_swap true true c = refl
or_swap true false c = refl
or_swap false true c = refl
or_swap false false c = refl

put_has : (a n : ℕ) (xs : List ℕ) → is_among a (insert_sorted n xs) ≡ is_among a (n ∷ xs)
put_has a n [] = refl
put_has a n (y ∷ ys) =
    elim (cases_order n y) [
      | inl is ↦
          ap (is_among a) (cond-false (ltb n y) _ _ (le-ltb n y (omega arith)) ∙ cond-true (eqb n y) _ _ (eq-eqb n y is))
          ∙ or_twice (y == a) (is_among a ys) ∙ ap (λ m. (m == a) || is_among a (y ∷ ys)) (sym is)
      | inr (inl below) ↦ ap (is_among a) (cond-true (ltb n y) _ _ (lt-ltb n y below))
      | inr (inr over) ↦
          ap (is_among a) (cond-false (ltb n y) _ _ (le-ltb n y (omega arith)) ∙ cond-false (eqb n y) _ _ (ne_eqb n y (λ is. omega arith)))
          ∙ ap (λ b. (y == a) || b) (put_has a n ys) ∙ or_swap (y == a) (n == a) (is_among a ys)
    ]

pub sorted_rises : (xs : List ℕ) → Rises (sorted_set xs)
sorted_rises [] = tt
sorted_rises (x ∷ xs) = put_rises x (sorted_set xs) (sorted_rises xs)

pub sorted_has : (a : ℕ) (xs : List ℕ) → is_among a (sorted_set xs) ≡ is_among a xs
sorted_has a [] = refl
sorted_has a (x ∷ xs) = put_has a x (sorted_set xs) ∙ ap (λ b. (x == a) || b) (sorted_has a xs)

-- the tails of two lists that have the same numbers and the same first one
tails_same : (x : ℕ) (xs ys : List ℕ) → AllAbove x xs → AllAbove x ys → ((a : ℕ) → is_among a (x ∷ xs) ≡ is_among a (x ∷ ys)) → (a : ℕ) → is_among a xs ≡ is_among a ys
tails_same x xs ys above above' h a =
    elim (cases_eq x a) [
      | inl is ↦ subst (λ b. is_among b xs ≡ is_among b ys) is (first_lacks x xs above ∙ sym (first_lacks x ys above'))
      | inr apart ↦ sym (ap (λ b. b || is_among a xs) (ne_eqb x a apart)) ∙ h a ∙ ap (λ b. b || is_among a ys) (ne_eqb x a apart)
    ]

own_first : (x : ℕ) (xs : List ℕ) → is_among x (x ∷ xs) ≡ true
own_first x xs = or_left _ _ (eq-eqb x x refl)

below_lacks : (x y : ℕ) (ys : List ℕ) → x < y → AllAbove y ys → is_among x (y ∷ ys) ≡ false
below_lacks x y ys lt h = ap (λ b. b || is_among x ys) (ne_eqb y x (λ is. omega arith)) ∙ above_lacks x y ys (omega arith) h

-- two rising lists that have the same numbers are the same
pub one_list : (xs ys : List ℕ) → Rises xs → Rises ys → ((a : ℕ) → is_among a xs ≡ is_among a ys) → xs ≡ ys
one_list [] [] r s h = refl
one_list [] (y ∷ ys) r s h = absurd (true≢false (sym (own_first y ys) ∙ sym (h y)))
one_list (x ∷ xs) [] r s h = absurd (true≢false (sym (own_first x xs) ∙ h x))
one_list (x ∷ xs) (y ∷ ys) r s h =
    elim (cases_order x y) [
      | inl is ↦
          let s' : AllAbove x ys = subst (λ z. AllAbove z ys) (sym is) s.0 in
          let h' = subst (λ z. (a : ℕ) → is_among a (x ∷ xs) ≡ is_among a (z ∷ ys)) (sym is) h in
          ap (λ z. z ∷ xs) is ∙ ap (λ zs. y ∷ zs) (one_list xs ys r.1 s.1 (tails_same x xs ys r.0 s' h'))
      | inr (inl below) ↦ absurd (true≢false (sym (own_first x xs) ∙ h x ∙ below_lacks x y ys below s.0))
      | inr (inr over) ↦ absurd (true≢false (sym (own_first y ys) ∙ sym (h y) ∙ below_lacks y x xs over r.0))
    ]

-- std's word, by neighbours
increasing_tail : (x : ℕ) (xs : List ℕ) → IsStrictlyIncreasing (x ∷ xs) → IsStrictlyIncreasing xs
increasing_tail x xs h k lt =
    let e : suc k + 1 ≡ suc (k + 1) = omega arith in
    subst (λ m. get_or xs k 0 < get_or (x ∷ xs) m 0) e (h (suc k) (omega arith))

pub rises_from_increasing : (xs : List ℕ) → IsStrictlyIncreasing xs → Rises xs
rises_from_increasing [] h = tt
rises_from_increasing (x ∷ []) h = (tt, tt)
rises_from_increasing (x ∷ y ∷ ys) h =
    let r = rises_from_increasing (y ∷ ys) (increasing_tail x (y ∷ ys) h) in
    let lt : x < y = h 0 (omega arith) in
    ((lt, above_more x y ys (omega arith) r.0), r)

pub increasing_from_rises : (xs : List ℕ) → Rises xs → IsStrictlyIncreasing xs
increasing_from_rises [] r k lt = absurd (omega arith)
increasing_from_rises (x ∷ []) r zero lt = absurd (omega arith)
increasing_from_rises (x ∷ y ∷ ys) r zero lt = r.0.0
increasing_from_rises (x ∷ xs) r (suc k) lt =
    let e : suc (k + 1) ≡ suc k + 1 = omega arith in
    subst (λ m. get_or xs k 0 < get_or (x ∷ xs) m 0) e (increasing_from_rises xs r.1 k (omega arith))

pub sets_are : (numbers : List ℕ) → IsSetOf numbers (sorted_set numbers)
sets_are numbers = record { ascend = increasing_from_rises _ (sorted_rises numbers); each = λ a. sorted_has a numbers }

pub sorted_sets_are_unique : SortedSetsAreUnique
sorted_sets_are_unique numbers set = (
  λ h. one_list set (sorted_set numbers) (rises_from_increasing set h.ascend) (sorted_rises numbers) (λ a. h.each a ∙ sym (sorted_has a numbers)),
  λ is. subst (IsSetOf numbers) (sym is) (sets_are numbers),
)

dedup_from_has : (a k : ℕ) (xs : List ℕ) → is_among a (dedup_from eqb k xs) ≡ is_among a (k ∷ xs)
dedup_from_has a k [] = refl
dedup_from_has a k (x ∷ xs) =
    elim (cases_eq x k) [
      | inl is ↦
          ap (is_among a) (cond-true (eqb x k) _ _ (eq-eqb x k is))
          ∙ dedup_from_has a k xs ∙ or_twice (k == a) (is_among a xs) ∙ ap (λ m. (k == a) || ((m == a) || is_among a xs)) (sym is)
      | inr apart ↦
          ap (is_among a) (cond-false (eqb x k) _ _ (ne_eqb x k apart))
          ∙ ap (λ b. (k == a) || b) (dedup_from_has a x xs)
    ]

dedup_has : (a : ℕ) (xs : List ℕ) → is_among a (dedup eqb xs) ≡ is_among a xs
dedup_has a [] = refl
dedup_has a (x ∷ xs) = dedup_from_has a x xs

module _ {X : Type 0} (number : X → ℕ) where
  -- values are the same where their numbers are
  abbrev same : X → X → Bool
  same x y = eqb (number x) (number y)

  map_dedup_from : (k : X) (xs : List X) → map number (dedup_from same k xs) ≡ dedup_from eqb (number k) (map number xs)
  map_dedup_from k [] = refl
  map_dedup_from k (x ∷ xs) =
      elim (cases_Bool (eqb (number x) (number k))) [
        | inl e ↦ ap (map number) (cond-true _ (dedup_from same k xs) (k ∷ dedup_from same x xs) e) ∙ map_dedup_from k xs ∙ sym (cond-true _ _ _ e)
        | inr e ↦ ap (map number) (cond-false _ (dedup_from same k xs) (k ∷ dedup_from same x xs) e) ∙ ap (λ ys. number k ∷ ys) (map_dedup_from x xs) ∙ sym (cond-false _ _ _ e)
      ]

  map_dedup : (xs : List X) → map number (dedup same xs) ≡ dedup eqb (map number xs)
  map_dedup [] = refl
  map_dedup (x ∷ xs) = map_dedup_from x xs

  -- values in the order of their numbers
  abbrev pub by_number : X → X → Ordering
  by_number x y = nat_cmp (number x) (number y)

  sorted_numbers : (xs : List X) → IsSorted by_number xs → IsSorted nat_cmp (map number xs)
  sorted_numbers [] h k d low high = absurd (omega arith)
  sorted_numbers (x ∷ xs) h k d low high =
      let within : k + 1 < length (x ∷ xs) = omega (arith, length-map (x ∷ xs) number) in
      let before : k < length (x ∷ xs) = omega arith in
      rw (get_or-map number (x ∷ xs) (k + 1) x d within, get_or-map number (x ∷ xs) k x d before) (h k x low within)

  deduped : (ys zs : List X) → IsFiltered (DiffersFromLast same) [] ys zs → map number zs ≡ dedup eqb (map number ys)
  deduped ys zs kept = ap (map number) (dedup_is same ys zs kept) ∙ map_dedup ys

  -- what is sorted and has each number once ascends
  pub once_ascends : (ys zs : List X) → IsSorted by_number ys → IsFiltered (DiffersFromLast same) [] ys zs → IsStrictlyIncreasing (map number zs)
  once_ascends ys zs sorted kept = subst IsStrictlyIncreasing (sym (deduped ys zs kept)) (IsStrictlyIncreasing-dedup _ (sorted_numbers ys sorted))

  -- and these are the ascending numbers of what was sorted
  pub once_is : (xs ys zs : List X) → IsPermutation xs ys → IsSorted by_number ys → IsFiltered (DiffersFromLast same) [] ys zs → map number zs ≡ sorted_set (map number xs)
  once_is xs ys zs moved sorted kept =
      one_list _ _ (rises_from_increasing _ (once_ascends ys zs sorted kept)) (sorted_rises (map number xs))
      (λ a. ap (is_among a) (deduped ys zs kept) ∙ dedup_has a (map number ys) ∙ sym (list_any-IsPermutation _ _ _ (IsPermutation-map number xs ys moved)) ∙ sym (sorted_has a (map number xs)))

  greater_than : (a b : ℕ) → b < a → nat_cmp a b ≡ Greater
  greater_than a b lt = sym (nat_cmp_is a b Greater lt)

  equal_numbers : (a b : ℕ) → nat_cmp a b ≡ Equal → a ≡ b
  equal_numbers a b e =
      elim (cases_order a b) [
        | inl is ↦ is
        | inr (inl below) ↦ let f = nat_cmp_is a b Less below in cc
        | inr (inr over) ↦ let f = nat_cmp_is a b Greater over in cc
      ]

  apart_numbers : (a b : ℕ) (o : Ordering) → Equal ≢ o → nat_cmp a b ≡ o → eqb a b ≡ false
  apart_numbers a b o other e = ne_eqb a b (λ is. other (nat_cmp_is a b Equal is ∙ e))

  any_mapped : (n : ℕ) (xs : List X) → is_among n (map number xs) ≡ list_any (λ x. eqb (number x) n) xs
  any_mapped n [] = refl
  any_mapped n (x ∷ xs) = ap (λ b. eqb (number x) n || b) (any_mapped n xs)

  sorted_from : (xs : List X) → IsStrictlyIncreasing (map number xs) → IsSorted by_number xs
  sorted_from [] h k d low high = absurd (omega arith)
  sorted_from (x ∷ xs) h k d low high =
      let before : k < length (x ∷ xs) = omega arith in
      let mapped : k + 1 < length (map number (x ∷ xs)) = omega (arith, length-map (x ∷ xs) number) in
      let lt = rw (get_or-map number (x ∷ xs) k d 0 before, get_or-map number (x ∷ xs) (k + 1) d 0 high) at (h k mapped) in
      ap is_lt (greater_than (number (get_or (x ∷ xs) (k + 1) d)) (number (get_or (x ∷ xs) k d)) lt)

  lacks : (xs : List X) (n i : ℕ) → AllWithin (λ y. nat_cmp (number y) n ≡ Less) xs 0 i × AllWithin (λ y. nat_cmp (number y) n ≡ Greater) xs i (length xs) → is_among n (map number xs) ≡ false
  lacks xs n i h =
      any_mapped n xs
      ∙ list_any_none _ xs (λ k d lt. elim (cases_lt k i) [
        | inl before ↦ apart_numbers (number (get_or xs k d)) n Less (λ e. cc) (h.0 k d (omega arith) before)
        | inr after ↦ apart_numbers (number (get_or xs k d)) n Greater (λ e. cc) (h.1 k d after lt)
      ])

  -- a binary search among values whose numbers ascend finds what is there
  pub search_finds : (xs : List X) (n : ℕ) (r : Result ℕ ℕ) → IsStrictlyIncreasing (map number xs) → IsSearchInRange r (length xs) → IsBinarySearchResult (λ y. nat_cmp (number y) n) xs r → is_ok r ≡ is_among n (map number xs)
  search_finds [] n (Ok i) h range found = let lt : i < 0 = range in absurd (omega arith)
  search_finds (x ∷ xs) n (Ok i) h range found =
      sym (any_mapped n (x ∷ xs) ∙ list_any_at (λ y. eqb (number y) n) (x ∷ xs) i x range (eq-eqb _ n (equal_numbers _ n (found x))))
  search_finds xs n (Err i) h range found =
      sym (lacks xs n i (found (searchable_from_sorted nat_cmp_total number xs n (sorted_from xs h))))
