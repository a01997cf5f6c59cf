-- Whether a line is about an address changes only where one of its spans begins, or right after one ends.
use Rattle.std.proofs.Common.{zero, suc, ◌≡◌, ◌≢◌, ℕ, ◌+◌, ◌<◌, ◌^◌, ◌&&◌, ◌||◌, not, Bool, true, false, cond, List, [], ◌∷◌, ◌++◌, map, refl, sym, ap, ◌∙◌, subst, arith, inl, inr}
use Rattle.std.specs.Prelude.{◌==◌, count_by, nat_le, nat_lt}
use Rattle.std.specs.List.{flat_map, list_all, list_any}
use Rattle.std.proofs.lemmas.Bool.{and_from, and_parts, cases_Bool, cases_eq, cases_lt, eq-eqb, false_from_ne_true, le-leb, le-ltb, lt-leb, lt-ltb, ltb-true, ne_eqb, or_cases, or_left, or_parts, or_right, true≢false}
use Rattle.std.proofs.lemmas.List.Folds.{list_any-append}
use Rattle.std.proofs.lemmas.List.Sums.{sum_by-cons}
use Rattle.desk_text.specs.Address.{number_of}
use Rattle.desk_text.specs.declared.address.Addr.{Addr}
use Rattle.desk_text.specs.AddrSet.{is_among, sorted_set}
use Rattle.desk_text.specs.Laws.{IsSetOf, SortedSetsAreUnique}
use Rattle.desk_expect.specs.Audience.{AudienceValue, IsNobody, contains}
use Rattle.desk_expect.specs.PrivateAudience.{AreAudienceStarts}
use Rattle.desk_expect.specs.PrivateSpans.{set_starts, start_if}
use Rattle.desk_expect.specs.Spans.{SpanEnds, is_held}

-- ---- what is not a start
-- a number that is an address with one before it starts itself
started : (number : ℕ) → 0 < number → number < 2 ^ 32 → is_among number (start_if number) ≡ true
started number some fits =
    let in_range : (nat_lt 0 number && nat_lt number (2 ^ 32)) ≡ true = and_from (nat_lt 0 number) (nat_lt number (2 ^ 32)) (lt-ltb 0 number some) (lt-ltb number (2 ^ 32) fits) in
    subst (λ b. is_among number (cond b (number ∷ []) []) ≡ true) (sym in_range) (or_left (number == number) false (eq-eqb number number refl))

module _ (address : ℕ) (fits : address + 1 < 2 ^ 32) where
  -- a number whose start, so many after it, is not the next address
  apart : (number step : ℕ) → is_among (address + 1) (start_if (number + step)) ≡ false → number + step ≢ address + 1
  apart number step none is = true≢false (sym (subst (λ n. is_among (address + 1) (start_if n) ≡ true) (sym is) (started (address + 1) (omega arith) fits)) ∙ none)

  begun_steady : (firsts : List ℕ) → is_among (address + 1) (flat_map (λ first. start_if (first + 0)) firsts) ≡ false
      → count_by (λ first. nat_le first (address + 1)) firsts ≡ count_by (λ first. nat_le first address) firsts
  begun_steady [] none = refl
  begun_steady (first ∷ firsts) none =
      let p = or_parts (is_among (address + 1) (start_if (first + 0))) (is_among (address + 1) (flat_map (λ (n : ℕ). start_if (n + 0)) firsts))
      (sym (list_any-append _ (start_if (first + 0)) (flat_map (λ (n : ℕ). start_if (n + 0)) firsts)) ∙ none) in
      let rest = begun_steady firsts p.1 in
      let no = apart first 0 p.0 in
      let one : cond {A = ℕ} (nat_le first (address + 1)) 1 0 ≡ cond (nat_le first address) 1 0 = ap (λ (b : Bool). cond {A = ℕ} b 1 0) (elim (cases_lt address first) as (λ _. nat_le first (address + 1) ≡ nat_le first address) [
        | inl over ↦ lt-leb first (address + 1) (omega arith) ∙ sym (lt-leb first address over)
        | inr within ↦ le-leb first (address + 1) (omega arith) ∙ sym (le-leb first address within)
      ]) in
      let a = sum_by-cons (λ (n : ℕ). cond {A = ℕ} (nat_le n (address + 1)) 1 0) first firsts in
      let b = sum_by-cons (λ (n : ℕ). cond {A = ℕ} (nat_le n address) 1 0) first firsts in
      omega arith

  ended_steady : (lasts : List ℕ) → is_among (address + 1) (flat_map (λ last. start_if (last + 1)) lasts) ≡ false
      → count_by (λ last. nat_lt last (address + 1)) lasts ≡ count_by (λ last. nat_lt last address) lasts
  ended_steady [] none = refl
  ended_steady (last ∷ lasts) none =
      let p = or_parts (is_among (address + 1) (start_if (last + 1))) (is_among (address + 1) (flat_map (λ (n : ℕ). start_if (n + 1)) lasts))
      (sym (list_any-append _ (start_if (last + 1)) (flat_map (λ (n : ℕ). start_if (n + 1)) lasts)) ∙ none) in
      let rest = ended_steady lasts p.1 in
      let no = apart last 1 p.0 in
      let one : cond {A = ℕ} (nat_lt last (address + 1)) 1 0 ≡ cond (nat_lt last address) 1 0 = ap (λ (b : Bool). cond {A = ℕ} b 1 0) (elim (cases_lt last address) as (λ _. nat_lt last (address + 1) ≡ nat_lt last address) [
        | inl before ↦ lt-ltb last (address + 1) (omega arith) ∙ sym (lt-ltb last address before)
        | inr over ↦ le-ltb last (address + 1) (omega arith) ∙ sym (le-ltb last address over)
      ]) in
      let a = sum_by-cons (λ (n : ℕ). cond {A = ℕ} (nat_lt n (address + 1)) 1 0) last lasts in
      let b = sum_by-cons (λ (n : ℕ). cond {A = ℕ} (nat_lt n address) 1 0) last lasts in
      omega arith

  held_steady : (ends : SpanEnds) → is_among (address + 1) (set_starts ends) ≡ false → is_held ends (address + 1) ≡ is_held ends address
  held_steady ends none =
      let p = or_parts (is_among (address + 1) (flat_map (λ (n : ℕ). start_if (n + 0)) ends.firsts)) (is_among (address + 1) (flat_map (λ (n : ℕ). start_if (n + 1)) ends.lasts))
      (sym (list_any-append _ (flat_map (λ (n : ℕ). start_if (n + 0)) ends.firsts) (flat_map (λ (n : ℕ). start_if (n + 1)) ends.lasts)) ∙ none) in
      ap (λ n. nat_lt n (count_by (λ first. nat_le first (address + 1)) ends.firsts)) (ended_steady ends.lasts p.1)
      ∙ ap (nat_lt (count_by (λ last. nat_lt last address) ends.lasts)) (begun_steady ends.firsts p.0)

-- ---- all starts are addresses with one before them
start_small : (number address : ℕ) → is_among address (start_if number) ≡ true → (0 < address) × (address < 2 ^ 32)
start_small number address at =
    elim (cases_Bool (nat_lt 0 number && nat_lt number (2 ^ 32))) as (λ _. (0 < address) × (address < 2 ^ 32)) [
      | inl in_range ↦
          let own : is_among address (number ∷ []) ≡ true = sym (ap (λ b. is_among address (cond b (number ∷ []) [])) in_range) ∙ at in
          let q = and_parts (nat_lt 0 number) (nat_lt number (2 ^ 32)) in_range in
          let is : number ≡ address = only number address own in
          (subst (λ n. 0 < n) is (ltb-true 0 number q.0), subst (λ n. n < 2 ^ 32) is (ltb-true number (2 ^ 32) q.1))
      | inr out ↦ absurd (true≢false (sym at ∙ ap (λ b. is_among address (cond b (number ∷ []) [])) out))
    ]
  where
    only : (number address : ℕ) → is_among address (number ∷ []) ≡ true → number ≡ address
    only number address at = elim (cases_eq number address) as (λ _. number ≡ address) [
      | inl is ↦ is
      | inr apart ↦ absurd (true≢false (sym at ∙ ap (λ b. b || false) (ne_eqb number address apart)))
    ]

pub AllSmall : List ℕ → Type 0
AllSmall starts = (address : ℕ) → is_among address starts ≡ true → (0 < address) × (address < 2 ^ 32)

small_append : (xs ys : List ℕ) → AllSmall xs → AllSmall ys → AllSmall (xs ++ ys)
unfolding AllSmall
small_append xs ys small small' address at =
    elim (or_cases (is_among address xs) (is_among address ys) (sym (list_any-append _ xs ys) ∙ at)) [ inl first ↦ small address first | inr second ↦ small' address second ]

stepped_small : (step : ℕ) (numbers : List ℕ) → AllSmall (flat_map (λ number. start_if (number + step)) numbers)
unfolding AllSmall
stepped_small step [] = λ address at. absurd (true≢false (sym at))
stepped_small step (number ∷ numbers) = small_append (start_if (number + step)) (flat_map (λ (n : ℕ). start_if (n + step)) numbers) (start_small (number + step)) (stepped_small step numbers)

set_small : (ends : SpanEnds) → AllSmall (set_starts ends)
set_small ends = small_append (flat_map (λ (n : ℕ). start_if (n + 0)) ends.firsts) (flat_map (λ (n : ℕ). start_if (n + 1)) ends.lasts) (stepped_small 0 ends.firsts) (stepped_small 1 ends.lasts)

-- ---- the starts of a line
pub audience_starts : SortedSetsAreUnique → (named but : SpanEnds) (numbers set : List ℕ) → numbers ≡ set_starts named ++ set_starts but → set ≡ sorted_set numbers
    → AreAudienceStarts (record { named = named; but = but }) set
unfolding AllSmall
audience_starts sets named but numbers set are is =
    let own : IsSetOf numbers set = (sets numbers set).1 is in
    let among : (n : ℕ) → is_among n set ≡ (is_among n (set_starts named) || is_among n (set_starts but)) =
    λ n. own.each n ∙ ap (is_among n) are ∙ list_any-append _ (set_starts named) (set_starts but) in
    let small = small_append (set_starts named) (set_starts but) (set_small named) (set_small but) in
    let address_of : (n : ℕ) → is_among n set ≡ true → (0 < n) × (n < 2 ^ 32) = λ n at. small n (sym (own.each n ∙ ap (is_among n) are) ∙ at) in
    record {
      ascend = own.ascend;
      after_first = false_from_ne_true (is_among 0 set) (λ at. let p = (address_of 0 at).0 in omega arith);
      small = λ n at. (address_of n at).1;
      steady = λ address fits none.
          let p = or_parts (is_among (address + 1) (set_starts named)) (is_among (address + 1) (set_starts but)) (sym (among (address + 1)) ∙ none) in
          ap (λ b. b && not (is_held but (address + 1))) (held_steady address fits named p.0) ∙ ap (λ b. is_held named address && not b) (held_steady address fits but p.1);
    }

-- ---- nobody
none_at : {X : Type 0} (p : X → Bool) (xs : List X) → list_all (λ x. not (p x)) xs ≡ true → list_any p xs ≡ false
none_at p [] e = refl
none_at p (x ∷ xs) e =
    let q = and_parts (not (p x)) (list_all (λ y. not (p y)) xs) e in
    ap (λ b. b || list_any p xs) (no (p x) q.0) ∙ none_at p xs q.1
  where
    no : (b : Bool) → not b ≡ true → b ≡ false
    no true e = sym e
    no false e = refl

none_among : (p : ℕ → Bool) (addresses : List Addr) (number : ℕ) → list_any (λ one. p (number_of one)) addresses ≡ false → is_among number (map number_of addresses) ≡ true → p number ≡ false
none_among p [] number none at = absurd (true≢false (sym at))
none_among p (one ∷ addresses) number none at =
    let q = or_parts (p (number_of one)) (list_any (λ (a : Addr). p (number_of a)) addresses) none in
    elim (cases_eq (number_of one) number) as (λ _. p number ≡ false) [
      | inl is ↦ ap p (sym is) ∙ q.0
      | inr apart ↦ none_among p addresses number q.1 (sym (ap (λ b. b || is_among number (map number_of addresses)) (ne_eqb (number_of one) number apart)) ∙ at)
    ]

module _ (audience : AudienceValue) (starts : List ℕ) (are : AreAudienceStarts audience starts) where
  none_from : contains audience 0 ≡ false → ((address : ℕ) → is_among address starts ≡ true → contains audience address ≡ false) → (address : ℕ) → address < 2 ^ 32 → contains audience address ≡ false
  none_from first others zero fits = first
  none_from first others (suc address) fits =
      let next : suc address ≡ address + 1 = omega arith in
      elim (cases_Bool (is_among (suc address) starts)) as (λ _. contains audience (suc address) ≡ false) [
        | inl at ↦ others (suc address) at
        | inr none ↦ ap (contains audience) next ∙ are.steady address (omega arith) (ap (λ n. is_among n starts) (sym next) ∙ none) ∙ none_from first others address (omega arith)
      ]

  -- the line is about none of the starts, and not about the first address of all
  pub nobody : (addresses : List Addr) → map number_of addresses ≡ starts → contains audience 0 ≡ false → list_all (λ address. not (contains audience (number_of address))) addresses ≡ true → IsNobody audience
  nobody addresses are_starts first all =
      none_from first (λ address at. none_among (contains audience) addresses address (none_at (λ (a : Addr). contains audience (number_of a)) addresses all) (ap (is_among address) are_starts ∙ at))

  all_of : (addresses : List Addr) → ((address : ℕ) → is_among address (map number_of addresses) ≡ true → contains audience address ≡ false) → list_all (λ address. not (contains audience (number_of address))) addresses ≡ true
  all_of [] none = refl
  all_of (one ∷ addresses) none =
      and_from (not (contains audience (number_of one))) (list_all (λ (a : Addr). not (contains audience (number_of a))) addresses)
      (ap not (none (number_of one) (or_left _ _ (eq-eqb (number_of one) (number_of one) refl))))
      (all_of addresses (λ address at. none address (or_right _ _ at)))

  pub none_of_nobody : (addresses : List Addr) → map number_of addresses ≡ starts → IsNobody audience → list_all (λ address. not (contains audience (number_of address))) addresses ≡ true
  none_of_nobody addresses are_starts nobody = all_of addresses (λ address at. nobody address (are.small address (ap (is_among address) (sym are_starts) ∙ at)))
