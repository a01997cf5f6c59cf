-- Which addresses spans hold, by how many of them begin up to an address and end before it.
use Rattle.std.proofs.Common.{zero, suc, ◌≡◌, ℕ, ◌+◌, ◌≤◌, ◌&&◌, ◌||◌, Bool, true, false, cond, List, [], ◌∷◌, length, map, refl, sym, ap, ◌∙◌, arith, inl, inr}
use Rattle.std.specs.Prelude.{count_by, nat_le, nat_lt}
use Rattle.std.specs.List.{list_any}
use Rattle.std.specs.List.Sorted.{IsPartitionPoint, IsPermutation}
use Rattle.std.proofs.lemmas.Bool.{cases_Bool, cases_lt, le-leb, le-ltb, lt-leb, lt-ltb}
use Rattle.std.proofs.lemmas.List.Folds.{fold-map}
use Rattle.std.proofs.lemmas.List.Sorted.{sum_by-IsPermutation}
use Rattle.std.proofs.lemmas.List.Sums.{sum_by-cons}
use Rattle.desk_text.specs.Address.{number_of}
use Rattle.desk_expect.specs.Spans.{holds, is_held}
use Rattle.desk_expect.specs.declared.span.Span.{Span}

one_of : (b : Bool) → b ≡ true → cond {A = ℕ} b 1 0 ≡ 1
one_of b e = ap (λ (x : Bool). cond {A = ℕ} x 1 0) e

none_of : (b : Bool) → b ≡ false → cond {A = ℕ} b 1 0 ≡ 0
none_of b e = ap (λ (x : Bool). cond {A = ℕ} x 1 0) e

-- ---- where those that pass come first, their count is the place where they end
pub parted_count : {X : Type 0} (p : X → Bool) (xs : List X) (k : ℕ) → IsPartitionPoint (λ y. p y ≡ true) (λ y. p y ≡ false) xs k → k ≤ length xs → k ≡ count_by p xs
parted_count p [] zero point le = refl
parted_count p [] (suc k) point le = absurd (omega arith)
parted_count {X} p (x ∷ xs) zero point le =
    let fails : p x ≡ false = point.1 0 x (omega arith) (omega arith) in
    let rest = parted_count p xs zero (λ i d low high. absurd (omega arith), λ i d low high. point.1 (suc i) d (omega arith) (omega arith)) (omega arith) in
    let first = none_of (p x) fails in
    let more = sum_by-cons (λ (y : X). cond (p y) 1 0) x xs in
    omega arith
parted_count {X} p (x ∷ xs) (suc k) point le =
    let passes : p x ≡ true = point.0 0 x (omega arith) (omega arith) in
    let rest = parted_count p xs k (λ i d low high. point.0 (suc i) d (omega arith) (omega arith), λ i d low high. point.1 (suc i) d (omega arith) (omega arith)) (omega arith) in
    let first = one_of (p x) passes in
    let more = sum_by-cons (λ (y : X). cond (p y) 1 0) x xs in
    omega arith

-- ---- one span
one_span : (first last a : ℕ) → first ≤ last → cond (nat_le first a) 1 0 ≡ cond (nat_lt last a) 1 0 + cond (nat_le first a && nat_le a last) 1 0
one_span first last a proper =
    elim (cases_lt a first) as (λ _. cond (nat_le first a) 1 0 ≡ cond (nat_lt last a) 1 0 + cond (nat_le first a && nat_le a last) 1 0) [
      | inl before ↦ rw (lt-leb first a before, le-ltb last a (omega arith)) refl
      | inr begun ↦ elim (cases_lt last a) as (λ _. cond (nat_le first a) 1 0 ≡ cond (nat_lt last a) 1 0 + cond (nat_le first a && nat_le a last) 1 0) [
        | inl ended ↦ rw (le-leb first a begun, lt-ltb last a ended, lt-leb a last ended) refl
        | inr within ↦ rw (le-leb first a begun, le-ltb last a within, le-leb a last within) refl
      ]
    ]

-- ---- all spans
module _ (a : ℕ) where
  begun : Span → Bool
  begun span = nat_le (number_of span.first) a

  ended : Span → Bool
  ended span = nat_lt (number_of span.last) a

  counts : (spans : List Span) → count_by (λ (span : Span). nat_le (number_of span.first) a) spans ≡ count_by (λ (span : Span). nat_lt (number_of span.last) a) spans + count_by (holds a) spans
  counts [] = refl
  counts (span ∷ spans) =
      let rest = counts spans in
      let b = sum_by-cons (λ (s : Span). cond (nat_le (number_of s.first) a) 1 0) span spans in
      let e = sum_by-cons (λ (s : Span). cond (nat_lt (number_of s.last) a) 1 0) span spans in
      let h = sum_by-cons (λ (s : Span). cond (holds a s) 1 0) span spans in
      let one = one_span (number_of span.first) (number_of span.last) a span.proper in
      omega arith

any_counted : {X : Type 0} (p : X → Bool) (xs : List X) → nat_lt 0 (count_by p xs) ≡ list_any p xs
any_counted p [] = refl
any_counted {X} p (x ∷ xs) =
    let more = sum_by-cons (λ (y : X). cond (p y) 1 0) x xs in
    elim (cases_Bool (p x)) as (λ _. nat_lt 0 (count_by p (x ∷ xs)) ≡ list_any p (x ∷ xs)) [
      | inl is ↦
          let first = one_of (p x) is in
          lt-ltb 0 (count_by p (x ∷ xs)) (omega arith) ∙ sym (ap (λ b. b || list_any p xs) is)
      | inr is_not ↦
          let first = none_of (p x) is_not in
          let same : count_by p (x ∷ xs) ≡ count_by p xs = omega arith in
          ap (nat_lt 0) same ∙ any_counted p xs ∙ sym (ap (λ b. b || list_any p xs) is_not)
    ]

more_than : (n k : ℕ) → nat_lt n (n + k) ≡ nat_lt 0 k
more_than n k =
    elim (cases_lt 0 k) as (λ _. nat_lt n (n + k) ≡ nat_lt 0 k) [
      | inl some ↦ lt-ltb n (n + k) (omega arith) ∙ sym (lt-ltb 0 k some)
      | inr none ↦ le-ltb n (n + k) (omega arith) ∙ sym (le-ltb 0 k none)
    ]

pub held_any : (spans : List Span) (firsts lasts : List ℕ) → IsPermutation (map (λ (span : Span). number_of span.first) spans) firsts → IsPermutation (map (λ (span : Span). number_of span.last) spans) lasts
    → (address : ℕ) → is_held (record { firsts = firsts; lasts = lasts }) address ≡ list_any (holds address) spans
held_any spans firsts lasts moved moved' a =
    let f : count_by (λ first. nat_le first a) firsts ≡ count_by (λ (span : Span). nat_le (number_of span.first) a) spans =
    sum_by-IsPermutation (λ first. cond (nat_le first a) 1 0) (map (λ (span : Span). number_of span.first) spans) firsts moved
    ∙ fold-map (λ n first. n + cond (nat_le first a) 1 0) (λ (span : Span). number_of span.first) 0 spans in
    let l : count_by (λ last. nat_lt last a) lasts ≡ count_by (λ (span : Span). nat_lt (number_of span.last) a) spans =
    sum_by-IsPermutation (λ last. cond (nat_lt last a) 1 0) (map (λ (span : Span). number_of span.last) spans) lasts moved'
    ∙ fold-map (λ n last. n + cond (nat_lt last a) 1 0) (λ (span : Span). number_of span.last) 0 spans in
    ap (λ n. nat_lt n (count_by (λ first. nat_le first a) firsts)) l
    ∙ ap (nat_lt (count_by (λ (span : Span). nat_lt (number_of span.last) a) spans)) (f ∙ counts a spans)
    ∙ more_than (count_by (λ (span : Span). nat_lt (number_of span.last) a) spans) (count_by (holds a) spans)
    ∙ any_counted (holds a) spans
