-- A class has all addresses of a network exactly if as many of them have it as there are.
use Rattle.std.proofs.Common.{◌≡◌, ◌≢◌, ℕ, zero, suc, ◌+◌, ◌-◌, ◌<◌, ◌≤◌, ◌∙◌, Bool, true, false, cond, Option, Some, None, ap, arith, inl, inr, refl, subst, sym}
use Rattle.std.specs.Prelude.{◌==◌, count_by}
use Rattle.std.specs.List.{range_with_len}
use Rattle.std.proofs.lemmas.Bool.{cases_Bool, cases_eq, eq-eqb, eqb-true, ne_eqb, true≢false}
use Rattle.std.proofs.lemmas.List.Sums.{sum_by-cons}
use Rattle.std.proofs.lemmas.Nat.{pow_pos}
use Rattle.desk_text.specs.Network.{Block, block_size, last_of}
use Rattle.page_data.specs.Class.{rank_of, same_class}
use Rattle.page_data.specs.Counts.{AreCounts, class_count, count_within}
use Rattle.page_data.specs.declared.class.Class.{Class}
use Rattle.page_data.specs.declared.class.Class.TheVariants.{Denied, ReadOnly, ReadWrite, RootKept}
use Rattle.page_data.specs.declared.counts.Counts.{Counts}
use Rattle.page_findings.specs.Badges.{count_of}
use Rattle.page_maps.specs.NetworkLaws.{AlikeMeansAll, AllHave}
use Rattle.page_maps.specs.NetworkRows.{class_of_all, is_mixed}

-- ---- how many of some addresses pass a test
abbrev own : Bool → ℕ
own passes = cond passes 1 0

module _ (test : ℕ → Bool) where
  abbrev counted : ℕ → ℕ → ℕ
  counted first n = count_by test (range_with_len first n)

  one_more : (first n : ℕ) → counted first (suc n) ≡ own (test first) + counted (first + 1) n
  one_more first n = sum_by-cons (λ address. own (test address)) first (range_with_len (first + 1) n)

  at_most : (n first : ℕ) → counted first n ≤ n
  at_most zero first = omega arith
  at_most (suc n) first =
      let rest = at_most n (first + 1) in
      elim (cases_Bool (test first)) as (λ _. counted first (suc n) ≤ suc n) [
        | inl passes ↦ (let here : own (test first) ≡ 1 = ap own passes in omega (arith, one_more first n))
        | inr fails ↦ (let here : own (test first) ≡ 0 = ap own fails in omega (arith, one_more first n))
      ]

  -- if all are counted, each passes
  each_passes : (n first address : ℕ) → counted first n ≡ n → first ≤ address → address < first + n → test address ≡ true
  each_passes zero first address full from before = absurd (omega arith)
  each_passes (suc n) first address full from before =
      let few = at_most n (first + 1) in
      elim (cases_Bool (test first)) as (λ _. test address ≡ true) [
        | inl passes ↦
            let here : own (test first) ≡ 1 = ap own passes in
            let rest : counted (first + 1) n ≡ n = omega (arith, one_more first n) in
            elim (cases_eq first address) as (λ _. test address ≡ true) [
              | inl same ↦ ap test (sym same) ∙ passes
              | inr apart ↦ each_passes n (first + 1) address rest (omega arith) (omega arith)
            ]
        | inr fails ↦ absurd (let here : own (test first) ≡ 0 = ap own fails in omega (arith, one_more first n))
      ]

  -- if each passes, all are counted; if none does, none is
  all_counted : (n first : ℕ) → ((address : ℕ) → first ≤ address → address < first + n → test address ≡ true) → counted first n ≡ n
  all_counted zero first each = (let few = at_most 0 first in omega arith)
  all_counted (suc n) first each =
      let rest = all_counted n (first + 1) (λ address from before. each address (omega arith) (omega arith)) in
      let here : own (test first) ≡ 1 = ap own (each first (omega arith) (omega arith)) in
      omega (arith, one_more first n)

  none_counted : (n first : ℕ) → ((address : ℕ) → first ≤ address → address < first + n → test address ≡ false) → counted first n ≡ 0
  none_counted zero first each = (let few = at_most 0 first in omega arith)
  none_counted (suc n) first each =
      let rest = none_counted n (first + 1) (λ address from before. each address (omega arith) (omega arith)) in
      let here : own (test first) ≡ 0 = ap own (each first (omega arith) (omega arith)) in
      omega (arith, one_more first n)

-- ---- the classes of the addresses of a network
same_is : (class other : Class) → same_class class other ≡ true → class ≡ other
same_is Denied Denied same = refl
same_is ReadOnly ReadOnly same = refl
same_is ReadWrite ReadWrite same = refl
same_is RootKept RootKept same = refl
same_is Denied ReadOnly same = absurd (true≢false (sym same))
same_is Denied ReadWrite same = absurd (true≢false (sym same))
same_is Denied RootKept same = absurd (true≢false (sym same))
same_is ReadOnly Denied same = absurd (true≢false (sym same))
same_is ReadOnly ReadWrite same = absurd (true≢false (sym same))
same_is ReadOnly RootKept same = absurd (true≢false (sym same))
same_is ReadWrite Denied same = absurd (true≢false (sym same))
same_is ReadWrite ReadOnly same = absurd (true≢false (sym same))
same_is ReadWrite RootKept same = absurd (true≢false (sym same))
same_is RootKept Denied same = absurd (true≢false (sym same))
same_is RootKept ReadOnly same = absurd (true≢false (sym same))
same_is RootKept ReadWrite same = absurd (true≢false (sym same))

class_in : Option Class → Class
class_in None = Denied
class_in (Some class) = class

module _ (class_at : ℕ → Class) (network : Block) where
  abbrev size : ℕ
  size = block_size network.prefix

  abbrev of : Class → ℕ → Bool
  of class address = same_class (class_at address) class

  some_size : 0 < size
  some_size = pow_pos (32 - network.prefix)

  is_counted : (class : Class) → class_count class_at class network.first (last_of network) ≡ counted (of class) network.first size
  unfolding count_within
  is_counted class =
      let some = some_size in
      let many : last_of network + 1 - network.first ≡ size = omega arith in
      ap (λ n. count_by (of class) (range_with_len network.first n)) many

  all_have : (class : Class) → class_count class_at class network.first (last_of network) ≡ size → AllHave class_at network class
  all_have class full address from to =
      let some = some_size in
      same_is (class_at address) class (each_passes (of class) size network.first address (sym (is_counted class) ∙ full) from (omega arith))

  full_count : (class : Class) → AllHave class_at network class → class_count class_at class network.first (last_of network) ≡ size
  full_count class all =
      let some = some_size in
      is_counted class ∙ all_counted (of class) size network.first
      (λ address from before. ap (λ c. same_class c class) (all address from (omega arith)) ∙ eq-eqb (rank_of class) (rank_of class) refl)

  no_count : (class other : Class) → same_class class other ≡ false → AllHave class_at network class → class_count class_at other network.first (last_of network) ≡ 0
  no_count class other apart all =
      let some = some_size in
      is_counted other ∙ none_counted (of other) size network.first (λ address from before. ap (λ c. same_class c other) (all address from (omega arith)) ∙ apart)

  module _ (counts : Counts) (are : AreCounts class_at network.first (last_of network) counts) where
    told_of : (class : Class) → count_of counts class ≡ class_count class_at class network.first (last_of network)
    told_of Denied = are.denied
    told_of ReadOnly = are.read_only
    told_of ReadWrite = are.read_write
    told_of RootKept = are.root_kept

    Told : Class → Type 0
    Told class = (class ≢ Denied) × AllHave class_at network class

    told : (class : Class) → (rank_of class ≡ 0 → ⊥) → (count_of counts class == size) ≡ true → Told class
    unfolding Told
    told class some full = (λ is. some (ap rank_of is), all_have class (sym (told_of class) ∙ eqb-true (count_of counts class) size full))

    by_cases : (root write read : Bool) → (counts.root_kept == size) ≡ root → (counts.read_write == size) ≡ write → (counts.read_only == size) ≡ read → (class : Class)
        → cond root (Some RootKept) (cond write (Some ReadWrite) (cond read (Some ReadOnly) None)) ≡ Some class → Told class
    unfolding class_in
    by_cases true write read root_is write_is read_is class is = subst Told (ap class_in is) (told RootKept (λ none. omega arith) root_is)
    by_cases false true read root_is write_is read_is class is = subst Told (ap class_in is) (told ReadWrite (λ none. omega arith) write_is)
    by_cases false false true root_is write_is read_is class is = subst Told (ap class_in is) (told ReadOnly (λ none. omega arith) read_is)
    by_cases false false false root_is write_is read_is class is = absurd (true≢false (ap is_mixed is))

    from_counts : (class : Class) → class_of_all size counts ≡ Some class → Told class
    from_counts class is = by_cases (counts.root_kept == size) (counts.read_write == size) (counts.read_only == size) refl refl refl class is

    full : (class : Class) → AllHave class_at network class → (count_of counts class == size) ≡ true
    full class all = eq-eqb (count_of counts class) size (told_of class ∙ full_count class all)

    none : (class other : Class) → same_class class other ≡ false → AllHave class_at network class → (count_of counts other == size) ≡ false
    none class other apart all = ne_eqb (count_of counts other) size (λ is. let some = some_size in let zero_of : count_of counts other ≡ 0 = told_of other ∙ no_count class other apart all in omega arith)

    to_counts : (class : Class) → (class ≢ Denied) → AllHave class_at network class → class_of_all size counts ≡ Some class
    to_counts Denied some all = absurd (some refl)
    to_counts RootKept some all =
        ap (λ b. cond b (Some RootKept) (cond (counts.read_write == size) (Some ReadWrite) (cond (counts.read_only == size) (Some ReadOnly) None))) (full RootKept all)
    to_counts ReadWrite some all =
        ap (λ b. cond b (Some RootKept) (cond (counts.read_write == size) (Some ReadWrite) (cond (counts.read_only == size) (Some ReadOnly) None))) (none ReadWrite RootKept refl all)
        ∙ ap (λ b. cond b (Some ReadWrite) (cond (counts.read_only == size) (Some ReadOnly) None)) (full ReadWrite all)
    to_counts ReadOnly some all =
        ap (λ b. cond b (Some RootKept) (cond (counts.read_write == size) (Some ReadWrite) (cond (counts.read_only == size) (Some ReadOnly) None))) (none ReadOnly RootKept refl all)
        ∙ ap (λ b. cond b (Some ReadWrite) (cond (counts.read_only == size) (Some ReadOnly) None)) (none ReadOnly ReadWrite refl all)
        ∙ ap (λ b. cond b (Some ReadOnly) None) (full ReadOnly all)

pub alike_means_all : AlikeMeansAll
unfolding Told
alike_means_all class_at network counts are class = (from_counts class_at network counts are class, λ both. to_counts class_at network counts are class both.0 both.1)
