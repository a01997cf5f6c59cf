-- How many addresses pass a test, and whether one does.
use Rattle.std.proofs.Common.{◌≡◌, ℕ, zero, suc, ◌+◌, ◌-◌, ◌<◌, ◌≤◌, ◌^◌, ◌∙◌, Bool, true, cond, ap, arith, inl, inr, subst, sym}
use Rattle.std.specs.Prelude.{count_by, nat_lt}
use Rattle.std.specs.List.{range_with_len}
use Rattle.std.proofs.lemmas.Bool.{cases_Bool, cases_eq, lt-ltb, ltb-true}
use Rattle.std.proofs.lemmas.List.Sums.{sum_by-cons}
use Rattle.desk_policy.specs.Policy.{Content}
use Rattle.page_data.specs.Counts.{count_within}
use Rattle.page_data.specs.Grants.{GrantsTo, HoldsOf}
use Rattle.page_findings.specs.Laws.{CountedLinesGrant, GrantsSomething}

module _ (test : ℕ → Bool) where
  -- an address that passes, from the first one on and before another
  record Passes (first behind : ℕ) : Type 0 where
    pub address : ℕ
    pub from : first ≤ address
    pub before : address < behind
    pub passes : test address ≡ true

  counted_more : (first n : ℕ) → count_by test (range_with_len first (suc n)) ≡ cond (test first) 1 0 + count_by test (range_with_len (first + 1) n)
  counted_more first n = sum_by-cons (λ address. cond (test address) 1 0) first (range_with_len (first + 1) n)

  some_counted : (n first : ℕ) → 0 < count_by test (range_with_len first n) → Passes first (first + n)
  some_counted zero first more = absurd (omega arith)
  some_counted (suc n) first more =
      elim (cases_Bool (test first)) as (λ _. Passes first (first + suc n)) [
        | inl here ↦ record { address = first; from = omega arith; before = omega arith; passes = here }
        | inr apart ↦
            let left : 0 < 0 + count_by test (range_with_len (first + 1) n) = subst (λ k. 0 < k) (counted_more first n ∙ ap (λ b. cond b 1 0 + count_by test (range_with_len (first + 1) n)) apart) more in
            let rest = some_counted n (first + 1) (omega arith) in
            record { address = rest.address; from = omega (arith, rest.from); before = omega (arith, rest.before); passes = rest.passes }
      ]

  counted_some : (n first address : ℕ) → first ≤ address → address < first + n → test address ≡ true → 0 < count_by test (range_with_len first n)
  counted_some zero first address from before passes = absurd (omega arith)
  counted_some (suc n) first address from before passes =
      elim (cases_eq first address) as (λ _. 0 < count_by test (range_with_len first (suc n))) [
        | inl same ↦ subst (λ k. 0 < k) (sym (counted_more first n ∙ ap (λ b. cond b 1 0 + count_by test (range_with_len (first + 1) n)) (ap test same ∙ passes))) (omega arith)
        | inr apart ↦ (let rest = counted_some n (first + 1) address (omega arith) (omega arith) passes in subst (λ k. 0 < k) (sym (counted_more first n)) (omega arith))
      ]

  some_within : (last : ℕ) → 0 < count_within test 0 last → Passes 0 (last + 1)
  unfolding count_within
  some_within last more =
      let found = some_counted (last + 1 - 0) 0 more in
      record { address = found.address; from = found.from; before = omega (arith, found.before); passes = found.passes }

  within_some : (last address : ℕ) → address ≤ last → test address ≡ true → 0 < count_within test 0 last
  unfolding count_within
  within_some last address le passes = counted_some (last + 1 - 0) 0 address (omega arith) (omega arith) passes

module _ (content : Content) (fs line count : ℕ) (holds : HoldsOf (GrantsTo content fs line) count) where
  to_some : nat_lt 0 count ≡ true → GrantsSomething content fs line
  to_some is =
      let more : 0 < count = ltb-true 0 count is in
      let found = some_within holds.test (2 ^ 32 - 1) (subst (λ n. 0 < n) holds.are more) in
      let below : found.address < 2 ^ 32 = omega (arith, found.before) in
      record { address = found.address; is_address = below; granted = (holds.decides found.address below).0 found.passes }

  from_some : GrantsSomething content fs line → nat_lt 0 count ≡ true
  from_some some =
      let more : 0 < count_within holds.test 0 (2 ^ 32 - 1) = within_some holds.test (2 ^ 32 - 1) some.address (let lt = some.is_address in omega arith) ((holds.decides some.address some.is_address).1 some.granted) in
      lt-ltb 0 count (subst (λ n. 0 < n) (sym holds.are) more)

pub counted_lines_grant : CountedLinesGrant
counted_lines_grant content line told = (to_some content line.fs line.row.entry.line line.count told.count, from_some content line.fs line.row.entry.line line.count told.count)
