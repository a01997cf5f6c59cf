-- A list that is sorted by a key which tells its elements apart stands in one order.
use Rattle.std.proofs.Common.{◌≡◌, ℕ, suc, ◌+◌, ◌<◌, ◌≤◌, ◌∙◌, Bool, true, false, cond, List, [], ◌∷◌, ap, arith, bytes_eq, drop, get_or, inl, inr, length, map, nat_cmp, not-suc-le-zero, refl, sym, true≢false, IsPermutation, IsSortedByKey}
use Rattle.std.specs.Prelude.{All, Contains, count_by}
use Rattle.std.specs.Cmp.Lexicographic.{slice_cmp}
use Rattle.std.specs.Ordering.{is_eq, is_lt, ordering_reverse}
use Rattle.std.specs.declared.cmp.Ordering.{Ordering}
use Rattle.std.specs.declared.cmp.Ordering.TheVariants.{Less, Equal, Greater}
use Rattle.std.proofs.lemmas.Bool.{cases_Bool}
use Rattle.std.proofs.lemmas.Cmp.{nat_list_cmp_total}
use Rattle.std.proofs.lemmas.List.Elements.{All-head, All-tail}
use Rattle.std.proofs.lemmas.List.Sorted.{Contains-permutation, IsPermutation-sym, ranks_by, sorted_far, sum_by-IsPermutation}
use Rattle.std.proofs.lemmas.List.Sums.{sum_by-cons}
use Rattle.std.proofs.lemmas.Map.Text.{is_eq-slice_cmp}
use Rattle.std.proofs.lemmas.Slice.Eq.{bytes_eq-Decides}
use Rattle.page_data.proofs.Containing.{here, there}

neither : (o : Ordering) → is_lt o ≡ false → is_lt (ordering_reverse o) ≡ false → is_eq o ≡ true
neither Less a b = absurd (true≢false a)
neither Equal a b = refl
neither Greater a b = absurd (true≢false b)

-- texts of which neither is below the other
same_text : (text other : List ℕ) → is_lt (slice_cmp nat_cmp text other) ≡ false → is_lt (slice_cmp nat_cmp other text) ≡ false → text ≡ other
same_text text other above below =
    (bytes_eq-Decides text other).0
    (sym (is_eq-slice_cmp text other) ∙ neither (slice_cmp nat_cmp text other) above (ap is_lt (sym (nat_list_cmp_total.antisymm other text)) ∙ below))

-- what counts for a test
abbrev tally : Bool → ℕ
tally passes = cond passes 1 0

module _ {X : Type 0} (test : X → Bool) where
  counted : (x : X) (xs : List X) → count_by test (x ∷ xs) ≡ cond (test x) 1 0 + count_by test xs
  counted x xs = sum_by-cons (λ y. cond (test y) 1 0) x xs

  counted_first : (x : X) (xs : List X) → test x ≡ true → count_by test (x ∷ xs) ≡ 1 + count_by test xs
  counted_first x xs passes = counted x xs ∙ ap (λ b. cond b 1 0 + count_by test xs) passes

  -- where some are counted, there is one
  some : (xs : List X) → 0 < count_by test xs → (x : X) × Contains xs x × (test x ≡ true)
  some [] more = absurd (not-suc-le-zero more)
  some (x ∷ xs) more =
      elim (cases_Bool (test x)) as (λ _. (z : X) × Contains (x ∷ xs) z × (test z ≡ true)) [
        | inl passes ↦ (x, here x x xs refl, passes)
        | inr fails ↦
            let left : count_by test (x ∷ xs) ≡ 0 + count_by test xs = counted x xs ∙ ap (λ b. cond b 1 0 + count_by test xs) fails in
            let found = some xs (omega arith) in
            (found.0, there x found.0 xs found.1, found.2)
      ]

module _ {X : Type 0} (key : X → List ℕ) where
  abbrev has : List ℕ → X → Bool
  has text x = bytes_eq text (key x)

  own : (x : X) → has (key x) x ≡ true
  own x = (bytes_eq-Decides (key x) (key x)).1 refl

  abbrev is_below : X → X → Bool
  is_below x y = is_lt (slice_cmp nat_cmp (key x) (key y))

  -- no later one is below an earlier one
  abbrev Rises : List X → Type 0
  Rises xs = (i j : ℕ) (d : X) → i ≤ j → j < length xs → is_below (get_or xs j d) (get_or xs i d) ≡ false

  abbrev AreAsMany : List X → List X → Type 0
  AreAsMany xs ys = (text : List ℕ) → count_by (has text) xs ≡ count_by (has text) ys

  abbrev AreToldApart : List X → List X → Type 0
  AreToldApart xs ys = (x y : X) → Contains xs x → Contains ys y → key x ≡ key y → x ≡ y

  rest_rises : (x : X) (xs : List X) → Rises (x ∷ xs) → Rises xs
  rest_rises x xs up = λ i j d before within. up (suc i) (suc j) d (omega arith) (omega arith)

  first_least : (x z : X) (xs : List X) → Rises (x ∷ xs) → Contains (x ∷ xs) z → is_below z x ≡ false
  first_least x z xs up found = ap (λ y. is_below y x) (sym found.2) ∙ up 0 found.0 z (omega arith) found.1

  not_below : (x y : X) (xs ys : List X) → Rises (y ∷ ys) → AreAsMany (x ∷ xs) (y ∷ ys) → is_below x y ≡ false
  not_below x y xs ys up many =
      let first = counted_first (has (key x)) x xs (own x) in
      let as_many = many (key x) in
      let found = some (has (key x)) (y ∷ ys) (omega arith) in
      let same : key x ≡ key found.0 = (bytes_eq-Decides (key x) (key found.0)).0 found.2 in
      ap (λ text. is_lt (slice_cmp nat_cmp text (key y))) same ∙ first_least y found.0 ys up found.1

  first_same : (x y : X) (xs ys : List X) → Rises (x ∷ xs) → Rises (y ∷ ys) → AreAsMany (x ∷ xs) (y ∷ ys) → AreToldApart (x ∷ xs) (y ∷ ys) → x ≡ y
  first_same x y xs ys up up' many apart =
      apart x y (here x x xs refl) (here y y ys refl)
      (same_text (key x) (key y) (not_below x y xs ys up' many) (not_below y x ys xs up (λ text. sym (many text))))

  one_rising : (xs ys : List X) → Rises xs → Rises ys → AreAsMany xs ys → AreToldApart xs ys → xs ≡ ys
  one_rising [] [] up up' many apart = refl
  one_rising [] (y ∷ ys) up up' many apart = absurd (let none : count_by (has (key y)) [] ≡ 0 = refl in let more = counted_first (has (key y)) y ys (own y) in let as_many = many (key y) in omega arith)
  one_rising (x ∷ xs) [] up up' many apart = absurd (let none : count_by (has (key x)) [] ≡ 0 = refl in let more = counted_first (has (key x)) x xs (own x) in let as_many = many (key x) in omega arith)
  one_rising (x ∷ xs) (y ∷ ys) up up' many apart =
      let same = first_same x y xs ys up up' many apart in
      let rest : AreAsMany xs ys = λ text.
      let as_many = many text in
      let mine = counted (has text) x xs in
      let its = counted (has text) y ys in
      let first : tally (has text x) ≡ tally (has text y) = ap (λ (z : X). tally (has text z)) same in
      omega arith
      in
      ap (λ z. z ∷ xs) same
      ∙ ap (λ zs. y ∷ zs) (one_rising xs ys (rest_rises x xs up) (rest_rises y ys up') rest (λ a b in_own in_its. apart a b (there x a xs in_own) (there y b ys in_its)))

  pub one_sorting : (given xs ys : List X) → IsPermutation given xs → IsSortedByKey key (slice_cmp nat_cmp) xs
      → IsPermutation given ys → IsSortedByKey key (slice_cmp nat_cmp) ys → AreToldApart given given → xs ≡ ys
  one_sorting given xs ys moved sorted moved' sorted' apart =
      one_rising xs ys
      (λ i j d before within. sorted_far is_below (ranks_by nat_list_cmp_total key) xs sorted i j d before within)
      (λ i j d before within. sorted_far is_below (ranks_by nat_list_cmp_total key) ys sorted' i j d before within)
      (λ text. sum_by-IsPermutation (λ x. cond (has text x) 1 0) given xs moved ∙ sym (sum_by-IsPermutation (λ x. cond (has text x) 1 0) given ys moved'))
      (λ x y in_own in_its. apart x y (Contains-permutation xs given x (IsPermutation-sym given xs moved) in_own) (Contains-permutation ys given y (IsPermutation-sym given ys moved') in_its))

-- Elements of two lists whose keys are the same, one by one, have the same values if each two with one key have.
module _ {X K V : Type 0} (key : X → K) (value : X → V) (P : X → Type 0) (same : (x y : X) → key x ≡ key y → P x → P y → value x ≡ value y) where
  pub same_values : (xs ys : List X) → map key xs ≡ map key ys → All P xs → All P ys → map value xs ≡ map value ys
  same_values [] [] keys are its = refl
  same_values [] (y ∷ ys) keys are its = absurd (let long = ap length keys in omega arith)
  same_values (x ∷ xs) [] keys are its = absurd (let long = ap length keys in omega arith)
  same_values (x ∷ xs) (y ∷ ys) keys are its =
      let first = same x y (ap (λ (ks : List K). get_or ks 0 (key x)) keys) (All-head P x xs are) (All-head P y ys its) in
      let rest = same_values xs ys (ap (λ (ks : List K). drop 1 ks) keys) (All-tail P x xs are) (All-tail P y ys its) in
      ap (λ z. z ∷ map value xs) first ∙ ap (λ zs. value y ∷ zs) rest
