-- The most that clients may is one class at each address, and classes have one count of each.
use Rattle.std.proofs.Common.{◌≡◌, ℕ, ◌+◌, ◌-◌, ◌<◌, ◌≤◌, ◌^◌, ◌∙◌, Bool, List, ap, arith, length, refl, sym}
use Rattle.std.specs.Prelude.{Contains}
use Rattle.std.specs.List.{range_with_len}
use Rattle.std.proofs.lemmas.List.FromFn.{get_or-range_with_len, length-range_with_len}
use Rattle.std.proofs.lemmas.List.Sums.{length-filter}
use Rattle.desk_who.specs.Runs.{Run, RunsAreUnique}
use Rattle.page_data.specs.Class.{class_of, same_class}
use Rattle.page_data.specs.Counts.{AreCounts, AreCountsFrom, class_count, count_within}
use Rattle.page_data.specs.Grants.{HoldsOf}
use Rattle.page_data.specs.Unique.{CountsAreUnique}
use Rattle.page_data.specs.Values.{AreRunsOfSome}
use Rattle.page_data.specs.declared.class.Class.{Class}
use Rattle.page_data.specs.declared.class.Class.TheVariants.{Denied, ReadOnly, ReadWrite, RootKept}
use Rattle.page_data.specs.declared.counts.Counts.{Counts}
use Rattle.page_data.proofs.Agreeing.{classes_are_unique, one_most}
use Rattle.page_data.proofs.Keyed.{filter_alike, same_test}

-- ---- tests that say the same of the addresses of a range
low_end : (first n x : ℕ) → Contains (range_with_len first n) x → first ≤ x
low_end first n x has =
    let lt = has.1 in
    let long = length-range_with_len first n in
    let at = sym has.2 ∙ get_or-range_with_len first n has.0 x (omega arith) in
    omega arith

high_end : (first n x : ℕ) → Contains (range_with_len first n) x → x < first + n
high_end first n x has =
    let lt = has.1 in
    let long = length-range_with_len first n in
    let at = sym has.2 ∙ get_or-range_with_len first n has.0 x (omega arith) in
    omega arith

pub within_alike : (test other : ℕ → Bool) (first last : ℕ) → ((address : ℕ) → first ≤ address → address ≤ last → test address ≡ other address)
    → count_within test first last ≡ count_within other first last
unfolding count_within
within_alike test other first last agree =
    let addresses = range_with_len first (last + 1 - first) in
    sym (length-filter test addresses)
    ∙ ap length (filter_alike test other addresses (λ address has.
    let low = low_end first (last + 1 - first) address has in
    let high = high_end first (last + 1 - first) address has in
    agree address low (omega arith)))
    ∙ length-filter other addresses

-- of so many addresses something holds
pub one_amount : (P : ℕ → Type 0) (count other : ℕ) → HoldsOf P count → HoldsOf P other → count ≡ other
one_amount P count other are its =
    are.are
    ∙ within_alike are.test its.test 0 (2 ^ 32 - 1)
    (λ address low high. let fits : address < 2 ^ 32 = omega arith in same_test (are.test address) (its.test address) (are.decides address fits) (its.decides address fits))
    ∙ sym its.are

-- ---- counts of classes
abbrev counted : ℕ → ℕ → ℕ → ℕ → Counts
counted denied read_only read_write root_kept = record { denied = denied; read_only = read_only; read_write = read_write; root_kept = root_kept }

one_counts : (class_at other_at : ℕ → Class) (first last : ℕ) (counts others : Counts) → ((address : ℕ) → first ≤ address → address ≤ last → class_at address ≡ other_at address)
    → AreCounts class_at first last counts → AreCounts other_at first last others → counts ≡ others
one_counts class_at other_at first last counts others agree are its =
    let same : (class : Class) → class_count class_at class first last ≡ class_count other_at class first last =
    λ class. within_alike (λ address. same_class (class_at address) class) (λ address. same_class (other_at address) class) first last
    (λ address low high. ap (λ (own : Class). same_class own class) (agree address low high)) in
    ap (λ n. counted n counts.read_only counts.read_write counts.root_kept) (are.denied ∙ same Denied ∙ sym its.denied)
    ∙ ap (λ n. counted others.denied n counts.read_write counts.root_kept) (are.read_only ∙ same ReadOnly ∙ sym its.read_only)
    ∙ ap (λ n. counted others.denied others.read_only n counts.root_kept) (are.read_write ∙ same ReadWrite ∙ sym its.read_write)
    ∙ ap (λ n. counted others.denied others.read_only others.read_write n) (are.root_kept ∙ same RootKept ∙ sym its.root_kept)

one_counts_from : (runs : List (Run Class)) (first last : ℕ) (counts others : Counts) → AreRunsOfSome runs → AreCountsFrom runs first last counts → AreCountsFrom runs first last others → counts ≡ others
one_counts_from runs first last counts others some are its =
    one_counts some.value_at some.value_at first last counts others (λ address low high. refl) (are some.value_at some.are) (its some.value_at some.are)

pub counts_are_unique : RunsAreUnique Class → CountsAreUnique
counts_are_unique unique = record {
  most = one_most;
  classes = λ content is_here runs others are its. sym (classes_are_unique unique content is_here runs others are its);
  classes_from = λ ranges runs others some are its.
      sym (unique (λ address. class_of (some.value_at address)) runs others (are some.value_at some.are) (its some.value_at some.are));
  counts = one_counts;
  counts_from = one_counts_from;
}
