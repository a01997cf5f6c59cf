-- Of a history in any order the revisions, in the order of their numbers, are a history.
use Rattle.std.proofs.Common.{◌≡◌, ◌∙◌, sym, ap, subst, inl, inr, refl, ℕ, zero, suc, ◌+◌, ◌<◌, ◌≤◌, ◌==◌, Bool, true, false, cond, List, [], ◌∷◌, map, length, get_or, arith}
use Rattle.std.specs.Prelude.{IsPermutation}
use Rattle.std.specs.List.{AllByRecursion, range_with_len, sum_by}
use Rattle.std.specs.List.Sorted.{IsNonDecreasingBy}
use Rattle.std.specs.Str.{bytes_eq}
use Rattle.std.proofs.lemmas.Bool.{cases_lt, eq-eqb, ne_eqb}
use Rattle.std.proofs.lemmas.List.Sorted.{sum_by-IsPermutation}
use Rattle.std.proofs.lemmas.List.Sums.{sum_by-cons}
use Rattle.desk_core.specs.Head.{Revision}
use Rattle.desk_store.proofs.Revisions.{IsNumbered, own}
use Rattle.std.proofs.lemmas.List.{length-map}
use Rattle.std.proofs.lemmas.List.FromFn.{length-range_with_len}

abbrev pub Rises : List ℕ → Type 0
Rises [] = Unit {0}
Rises (x ∷ xs) = AllByRecursion (λ y. x ≤ y) xs × Rises xs

abbrev one_if : Bool → ℕ
one_if b = cond b 1 0

-- how often a number is in a list
abbrev count : ℕ → List ℕ → ℕ
count k [] = 0
count k (x ∷ xs) = cond (x == k) (suc (count k xs)) (count k xs)

add : (b : Bool) (n total : ℕ) → n ≡ total → cond b (suc n) n ≡ one_if b + total
add true n total h = omega (arith, h)
add false n total h = omega (arith, h)

cancel : (b : Bool) (m n : ℕ) → cond b (suc m) m ≡ cond b (suc n) n → m ≡ n
cancel true m n h = omega (arith, h)
cancel false m n h = h

none_below : (k x : ℕ) (xs : List ℕ) → AllByRecursion (λ y. x ≤ y) xs → k < x → count k xs ≡ 0
none_below k x [] h below = refl
none_below k x (y ∷ xs) h below =
    let other : (y == k) ≡ false = ne_eqb y k (λ e. omega (arith, e, h.0, below)) in
    ap (λ b. cond b (suc (count k xs)) (count k xs)) other ∙ none_below k x xs h.1 below

counts_self : (x : ℕ) (xs : List ℕ) → 0 < count x (x ∷ xs)
counts_self x xs = let own : (x == x) ≡ true = eq-eqb x x refl in subst (λ b. 0 < cond b (suc (count x xs)) (count x xs)) (sym own) (omega arith)

range_from : (x a n : ℕ) → x ≤ a → AllByRecursion (λ y. x ≤ y) (range_with_len a n)
range_from x a zero le = tt
range_from x a (suc n) le = (le, range_from x (a + 1) n (omega (arith, le)))

-- a rising list with the numbers of a range is that range
is_range : (xs : List ℕ) (a n : ℕ) → Rises xs → ((k : ℕ) → count k xs ≡ count k (range_with_len a n)) → xs ≡ range_with_len a n
is_range [] a zero up same = refl
is_range [] a (suc n) up same = absurd (omega (arith, same a, counts_self a (range_with_len (a + 1) n)))
is_range (x ∷ xs) a zero up same = absurd (omega (arith, same x, counts_self x xs))
is_range (x ∷ xs) a (suc n) up same =
    let first : x ≡ a = elim (cases_lt x a) [
      | inl less ↦ absurd (omega (arith, same x, counts_self x xs, none_below x a (range_with_len a (suc n)) (range_from a a (suc n) (omega arith)) less))
      | inr more ↦ elim (cases_lt a x) [
        | inl less ↦ absurd (omega (arith, same a, counts_self a (range_with_len (a + 1) n), none_below a x (x ∷ xs) (omega arith, up.0) less))
        | inr le ↦ omega (arith, more, le)
      ]
    ] in
    let rest : (k : ℕ) → count k xs ≡ count k (range_with_len (a + 1) n) = λ k.
    let rest_count = count k (range_with_len (a + 1) n) in
    cancel (x == k) (count k xs) rest_count (same k ∙ ap (λ y. cond (y == k) (suc rest_count) rest_count) (sym first)) in
    ap (λ y. y ∷ xs) first ∙ ap (λ ys. a ∷ ys) (is_range xs (a + 1) n up.1 rest)

counts : (k : ℕ) (xs : List ℕ) → count k xs ≡ sum_by (λ x. one_if (x == k)) xs
counts k [] = refl
counts k (x ∷ xs) = add (x == k) (count k xs) (sum_by (λ x. one_if (x == k)) xs) (counts k xs) ∙ sym (sum_by-cons (λ x. one_if (x == k)) x xs)

-- a rising list with the numbers of a range in some order is that range
pub same_range : (xs ys : List ℕ) (a n : ℕ) → Rises xs → IsPermutation xs ys → ys ≡ range_with_len a n → xs ≡ range_with_len a n
same_range xs ys a n up same is =
    is_range xs a n up (λ k. counts k xs ∙ sym (sum_by-IsPermutation (λ x. one_if (x == k)) xs ys same) ∙ sym (counts k ys) ∙ ap (count k) is)

-- ---- the revisions of a file

abbrev number_if : List ℕ → ℕ → Revision → ℕ
number_if file k r = cond (bytes_eq r.file file) (one_if (r.rev == k)) 0

counted : (file : List ℕ) (k : ℕ) (xs : List Revision) → count k (map (λ (r : Revision). r.rev) (own file xs)) ≡ sum_by (number_if file k) xs
counted file k [] = refl
counted file k (x ∷ xs) = step (bytes_eq x.file file) (counted file k xs) ∙ sym (sum_by-cons (number_if file k) x xs)
  where
    step : (b : Bool) → count k (map (λ (r : Revision). r.rev) (own file xs)) ≡ sum_by (number_if file k) xs
        → count k (map (λ (r : Revision). r.rev) (cond b (x ∷ own file xs) (own file xs))) ≡ cond b (one_if (x.rev == k)) 0 + sum_by (number_if file k) xs
    step true h = add (x.rev == k) _ _ h
    step false h = omega (arith, h)

all_from : (a : ℕ) (xs : List Revision) → ((j : ℕ) (d : Revision) → j < length xs → a ≤ (get_or xs j d).rev) → AllByRecursion (λ (r : Revision). a ≤ r.rev) xs
all_from a [] h = tt
all_from a (x ∷ xs) h = (h 0 x (omega arith), all_from a xs (λ j d below. h (suc j) d (omega arith)))

all_own : (file : List ℕ) (a : ℕ) (xs : List Revision) → AllByRecursion (λ (r : Revision). a ≤ r.rev) xs → AllByRecursion (λ y. a ≤ y) (map (λ (r : Revision). r.rev) (own file xs))
all_own file a [] h = tt
all_own file a (x ∷ xs) h = step (bytes_eq x.file file) (all_own file a xs h.1)
  where
    step : (b : Bool) → AllByRecursion (λ y. a ≤ y) (map (λ (r : Revision). r.rev) (own file xs))
        → AllByRecursion (λ y. a ≤ y) (map (λ (r : Revision). r.rev) (cond b (x ∷ own file xs) (own file xs)))
    step true more = (h.0, more)
    step false more = more

rising : (file : List ℕ) (xs : List Revision) → IsNonDecreasingBy (λ (r : Revision). r.rev) xs → Rises (map (λ (r : Revision). r.rev) (own file xs))
rising file [] h = tt
rising file (x ∷ xs) h =
    let above : AllByRecursion (λ (r : Revision). x.rev ≤ r.rev) xs = all_from x.rev xs (λ j d below. h 0 (suc j) d (omega arith) (omega arith)) in
    step (bytes_eq x.file file) (all_own file x.rev xs above) (rising file xs (λ i j d le below. h (suc i) (suc j) d (omega arith) (omega arith)))
  where
    step : (b : Bool) → AllByRecursion (λ y. x.rev ≤ y) (map (λ (r : Revision). r.rev) (own file xs)) → Rises (map (λ (r : Revision). r.rev) (own file xs))
        → Rises (map (λ (r : Revision). r.rev) (cond b (x ∷ own file xs) (own file xs)))
    step true above more = (above, more)
    step false above more = more

pub sorted_numbers : (xs ys : List Revision) → IsNonDecreasingBy (λ (r : Revision). r.rev) xs → IsPermutation xs ys → IsNumbered ys → IsNumbered xs
sorted_numbers xs ys up same h file =
    let n = length (own file ys) in
    let numbers = map (λ (r : Revision). r.rev) (own file xs) in
    let counts : (k : ℕ) → count k numbers ≡ count k (range_with_len 1 n) = λ k.
    counted file k xs ∙ sym (sum_by-IsPermutation (number_if file k) xs ys same) ∙ sym (counted file k ys) ∙ ap (count k) (h file) in
    let is : numbers ≡ range_with_len 1 n = is_range numbers 1 n (rising file xs up) counts in
    let long : n ≡ length (own file xs) = sym (length-range_with_len 1 n) ∙ ap length (sym is) ∙ length-map (own file xs) (λ (r : Revision). r.rev) in
    is ∙ ap (range_with_len 1) long
