-- Ascending addresses in ranges, for `laws::ranges_are_longest`.
use Rattle.std.proofs.Common.{◌≡◌, ◌≢◌, ◌∙◌, ℕ, suc, ◌+◌, ◌-◌, ◌<◌, ◌≤◌, ◌++◌, Bool, true, false, cond, List, [], ◌∷◌, ap, arith, inl, inr, refl, subst}
use Rattle.std.specs.Prelude.{◌==◌, slice_index}
use Rattle.std.specs.List.{flat_map, range_with_len}
use Rattle.std.specs.List.Sorted.{IsStrictlyIncreasing}
use Rattle.std.proofs.lemmas.Bool.{cases_order, eqb-false, eqb-true}
use Rattle.std.proofs.lemmas.List.{append_assoc}
use Rattle.page_html.specs.Ranges.{Ends}
use Rattle.page_lists.proofs.Counting.{behind}
use Rattle.page_lists.specs.Ranges.{AreApart, AreLongestRanges, addresses_in, ranges_from, ranges_of}

less : (a b : ℕ) → a ≤ b → a ≢ b → a < b
less a b le apart =
    elim (cases_order a b) as (λ _. a < b) [
      | inl same ↦ absurd (apart same)
      | inr other ↦ elim other as (λ _. a < b) [
        | inl is ↦ is
        | inr more ↦ absurd (omega arith)
      ]
    ]

-- each number is above the one before
abbrev Rise : ℕ → List ℕ → Type 0
Rise last [] = Unit {0}
Rise last (n ∷ ns) = (last < n) × Rise n ns

rises : (last : ℕ) (ns : List ℕ) → IsStrictlyIncreasing (last ∷ ns) → Rise last ns
rises last [] up = tt
rises last (n ∷ ns) up =
    (up 0 (omega arith), rises n ns (λ k within. (let next : suc k + 1 ≡ suc (k + 1) = omega arith in subst (λ m. slice_index (last ∷ n ∷ ns) (suc k) < slice_index (last ∷ n ∷ ns) m) next (up (suc k) (omega arith)))))

abbrev range : ℕ → ℕ → Ends
range first last = record { first = first; last = last }

longer : (first last n : ℕ) → first ≤ last → last + 1 ≡ n → addresses_in (range first n) ≡ addresses_in (range first last) ++ n ∷ []
longer first last n le e =
    let count : n + 1 - first ≡ suc (last + 1 - first) = omega arith in
    ap (range_with_len first) count ∙ behind first (last + 1 - first) n (omega arith)

alone : (n : ℕ) → addresses_in (range n n) ≡ n ∷ []
alone n = (let one : n + 1 - n ≡ 1 = omega arith in ap (range_with_len n) one)

have_all : (first last : ℕ) (ns : List ℕ) → first ≤ last → Rise last ns → flat_map addresses_in (ranges_from first last ns) ≡ addresses_in (range first last) ++ ns
have_all first last [] le up = refl
have_all first last (n ∷ ns) le up =
    by (last + 1 == n) refl (have_all first n ns (omega (arith, up.0)) up.1) (have_all n n ns (omega arith) up.1)
  where
    by : (b : Bool) → (last + 1 == n) ≡ b → flat_map addresses_in (ranges_from first n ns) ≡ addresses_in (range first n) ++ ns → flat_map addresses_in (ranges_from n n ns) ≡ addresses_in (range n n) ++ ns
        → flat_map addresses_in (cond b (ranges_from first n ns) (range first last ∷ ranges_from n n ns)) ≡ addresses_in (range first last) ++ n ∷ ns
    by true is one other = one ∙ ap (λ t. t ++ ns) (longer first last n le (eqb-true (last + 1) n is)) ∙ append_assoc (addresses_in (range first last)) (n ∷ []) ns
    by false is one other = ap (λ t. addresses_in (range first last) ++ t) (other ∙ ap (λ t. t ++ ns) (alone n))

-- the first of the ranges, if there is one, begins behind a number
abbrev BeginBehind : ℕ → List Ends → Type 0
BeginBehind n [] = Unit {0}
BeginBehind n (one ∷ others) = n < one.first

apart_more : (one : Ends) (others : List Ends) → one.first ≤ one.last → BeginBehind (one.last + 1) others → AreApart others → AreApart (one ∷ others)
apart_more one [] le begin apart = le
apart_more one (next ∷ others) le begin apart = (le, begin, apart)

begin_behind : (n first last : ℕ) (ns : List ℕ) → n < first → BeginBehind n (ranges_from first last ns)
begin_behind n first last [] lt = lt
begin_behind n first last (m ∷ ms) lt = by (last + 1 == m) (begin_behind n first m ms lt)
  where
    by : (b : Bool) → BeginBehind n (ranges_from first m ms) → BeginBehind n (cond b (ranges_from first m ms) (range first last ∷ ranges_from m m ms))
    by true rest = rest
    by false rest = lt

are_apart : (first last : ℕ) (ns : List ℕ) → first ≤ last → Rise last ns → AreApart (ranges_from first last ns)
are_apart first last [] le up = le
are_apart first last (n ∷ ns) le up =
    by (last + 1 == n) refl (are_apart first n ns (omega (arith, up.0)) up.1) (are_apart n n ns (omega arith) up.1)
  where
    by : (b : Bool) → (last + 1 == n) ≡ b → AreApart (ranges_from first n ns) → AreApart (ranges_from n n ns)
        → AreApart (cond b (ranges_from first n ns) (range first last ∷ ranges_from n n ns))
    by true is one other = one
    by false is one other =
        apart_more (range first last) (ranges_from n n ns) le (begin_behind (last + 1) n n ns (less (last + 1) n (omega (arith, up.0)) (eqb-false (last + 1) n is))) other

pub longest : (addresses : List ℕ) → IsStrictlyIncreasing addresses → AreLongestRanges addresses (ranges_of addresses)
longest [] up = record { have = refl; apart = tt }
longest (n ∷ ns) up =
    let rise = rises n ns up in
    record { have = have_all n n ns (omega arith) rise ∙ ap (λ t. t ++ ns) (alone n); apart = are_apart n n ns (omega arith) rise }
