-- Whether no address passes a test.
use Rattle.std.proofs.Common.{zero, suc, ◌≡◌, ℕ, ◌+◌, ◌<◌, ◌≤◌, not, Bool, true, false, refl, sym, ap, ◌∙◌, arith, inl, inr}
use Rattle.std.specs.List.{list_any, range_with_len}
use Rattle.std.proofs.lemmas.Bool.{cases_eq, or_from, or_parts, cases_Bool}
use Rattle.desk_expect.specs.Rules.{none_below}

none_in : (passes : ℕ → Bool) (first count : ℕ) → ((n : ℕ) → first ≤ n → n < first + count → passes n ≡ false) → list_any passes (range_with_len first count) ≡ false
none_in passes first zero none = refl
none_in passes first (suc count) none =
    or_from (passes first) (list_any passes (range_with_len (first + 1) count)) (none first (omega arith) (omega arith)) (none_in passes (first + 1) count (λ n low high. none n (omega arith) (omega arith)))

each_in : (passes : ℕ → Bool) (first count : ℕ) → list_any passes (range_with_len first count) ≡ false → (n : ℕ) → first ≤ n → n < first + count → passes n ≡ false
each_in passes first zero none n low high = absurd (omega arith)
each_in passes first (suc count) none n low high =
    let p = or_parts (passes first) (list_any passes (range_with_len (first + 1) count)) none in
    elim (cases_eq first n) as (λ _. passes n ≡ false) [
      | inl is ↦ ap passes (sym is) ∙ p.0
      | inr apart ↦ each_in passes (first + 1) count p.1 n (omega arith) (omega arith)
    ]

-- if none passes, this says so
pub none_passes_below : (count : ℕ) (passes : ℕ → Bool) → ((n : ℕ) → n < count → passes n ≡ false) → none_below count passes ≡ true
unfolding none_below
none_passes_below count passes none = ap not (none_in passes 0 count (λ n low high. none n (omega arith)))

-- if one passes, it does not
pub some_passes_below : (count : ℕ) (passes : ℕ → Bool) → (((n : ℕ) → n < count → passes n ≡ false) → ⊥) → none_below count passes ≡ false
unfolding none_below
some_passes_below count passes some = elim (cases_Bool (list_any passes (range_with_len 0 count))) as (λ _. not (list_any passes (range_with_len 0 count)) ≡ false) [
  | inl is ↦ ap not is
  | inr none ↦ absurd (some (λ n fits. each_in passes 0 count none n (omega arith) (omega arith)))
]
