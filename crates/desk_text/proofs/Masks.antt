-- Masks and their prefixes.
use Rattle.std.proofs.Common.{◌≡◌, ◌≢◌, inl, inr, ℕ, zero, suc, ◌+◌, ◌<◌, ◌≤◌, Bool, true, false, eqb, Option, Some, None, MatchOption, get_or, refl, sym, ap, subst, ◌∙◌, arith}
use Rattle.std.specs.Int.{bit_not, leading_ones, w32}
use Rattle.std.specs.List.{find, list_all, range_with_len}
use Rattle.std.proofs.lemmas.Bool.{cases_Bool, cond-true, cond-false, eqb-true, eqb-false}
use Rattle.std.proofs.lemmas.Nat.{leading_le}
use Rattle.std.proofs.lemmas.List.FromFn.{get_or-range_with_len, length-range_with_len}
use Rattle.std.proofs.lemmas.List.Recursion.{and_at}
use Rattle.desk_text.specs.Laws.{MasksReadBack}
use Rattle.desk_text.specs.Network.{mask_of, prefix_of_mask}

-- a test that all numbers below n pass
pub passes_below : (test : ℕ → Bool) (n : ℕ) → list_all test (range_with_len 0 n) ≡ true → (k : ℕ) → k < n → test k ≡ true
passes_below test n all k below =
    let at : test (get_or (range_with_len 0 n) k 0) ≡ true =
    and_at (list_all test) test refl (λ _ _. refl) (range_with_len 0 n) k 0 (omega (arith, length-range_with_len 0 n)) all in
    let is : get_or (range_with_len 0 n) k 0 ≡ k = omega (arith, get_or-range_with_len 0 n k 0 below) in
    sym (ap test is) ∙ at

-- the first bits of a mask that are set are as many as its prefix counts
ones_of_mask : (prefix : ℕ) → prefix ≤ 32 → leading_ones w32 (mask_of prefix) ≡ prefix
unfolding lib.Count.count_leading_zeros
ones_of_mask prefix few = eqb-true _ _ (passes_below (λ p. eqb (leading_ones w32 (mask_of p)) p) 33 refl prefix (omega arith))

-- what is found among n numbers from a on
abbrev IsFound : (ℕ → Bool) → ℕ → ℕ → Option ℕ → Type 0
IsFound test a n found =
    MatchOption found ((k : ℕ) → a ≤ k → k < a + n → test k ≡ false) (λ k. (k < a + n) × (test k ≡ true))

found_later : (test : ℕ → Bool) (a n : ℕ) (found : Option ℕ) → test a ≡ false → IsFound test (a + 1) n found → IsFound test a (suc n) found
found_later test a n None fails h = λ k low high.
    elim (cases_Bool (eqb k a)) [
      | inl e ↦ ap test (eqb-true k a e) ∙ fails
      | inr e ↦ (let other : k ≢ a = eqb-false k a e in h k (omega arith) (omega arith))
    ]
found_later test a n (Some k) fails h = (omega (arith, h.0), h.1)

is_found : (test : ℕ → Bool) (a n : ℕ) → IsFound test a n (find test (range_with_len a n))
is_found test a zero = λ k low high. absurd (omega arith)
is_found test a (suc n) =
    let more = find test (range_with_len (a + 1) n) in
    elim (cases_Bool (test a)) [
      | inl passes ↦ subst (IsFound test a (suc n)) (sym (cond-true (test a) (Some a) more passes)) (omega arith, passes)
      | inr fails ↦ subst (IsFound test a (suc n)) (sym (cond-false (test a) (Some a) more fails)) (found_later test a n more fails (is_found test (a + 1) n))
    ]

-- a mask that is found has the prefix that its first bits count
has_prefix : (mask prefix : ℕ) (found : Option ℕ) → prefix ≤ 32 → mask_of prefix ≡ mask → IsFound (λ p. eqb (mask_of p) mask) 0 33 found → found ≡ Some prefix
has_prefix mask prefix None few is h = absurd (let differs = h prefix (omega arith) (omega arith) in eqb-false (mask_of prefix) mask differs is)
has_prefix mask prefix (Some p) few is h =
    let same : mask_of p ≡ mask = eqb-true (mask_of p) mask h.1 in
    let ones = ones_of_mask p (omega (arith, h.0)) in
    let ones' = ones_of_mask prefix few in
    ap Some (sym ones ∙ ap (leading_ones w32) (same ∙ sym is) ∙ ones')

prefix_is : (mask prefix : ℕ) → prefix ≤ 32 → mask_of prefix ≡ mask → prefix_of_mask mask ≡ Some prefix
unfolding prefix_of_mask
prefix_is mask prefix few is = has_prefix mask prefix _ few is (is_found (λ p. eqb (mask_of p) mask) 0 33)

-- the prefix of a mask that is that of its first bits counts them
pub prefix_is_ones : (mask : ℕ) → mask_of (leading_ones w32 mask) ≡ mask → prefix_of_mask mask ≡ Some (leading_ones w32 mask)
prefix_is_ones mask is = prefix_is mask (leading_ones w32 mask) (leading_le 32 (bit_not w32 mask)) is

-- a mask that is not that of its first bits is of no prefix
has_none : (mask : ℕ) (found : Option ℕ) → mask_of (leading_ones w32 mask) ≢ mask → IsFound (λ p. eqb (mask_of p) mask) 0 33 found → found ≡ None
has_none mask None other h = refl
has_none mask (Some p) other h =
    let same : mask_of p ≡ mask = eqb-true (mask_of p) mask h.1 in
    absurd (other (ap mask_of (sym (ap (leading_ones w32) same) ∙ ones_of_mask p (omega (arith, h.0))) ∙ same))

pub prefix_is_none : (mask : ℕ) → mask_of (leading_ones w32 mask) ≢ mask → prefix_of_mask mask ≡ None
unfolding prefix_of_mask
prefix_is_none mask other = has_none mask _ other (is_found (λ p. eqb (mask_of p) mask) 0 33)

pub masks_read_back : MasksReadBack
masks_read_back prefix few = prefix_is (mask_of prefix) prefix few refl
