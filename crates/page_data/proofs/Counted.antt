-- How many addresses of a range are of a class, by the addresses that the runs share with the range.
use Rattle.std.proofs.Common.{◌≡◌, ℕ, zero, suc, ◌+◌, ◌-◌, ◌<◌, ◌≤◌, ◌^◌, ◌++◌, ◌∙◌, Bool, true, false, cond, List, [], ◌∷◌, ap, arith, get_or, inl, inr, length, max, min, refl, sym, take}
use Rattle.std.specs.List.{AllByRecursion, count_by, list_any, range_with_len, sum_by}
use Rattle.std.proofs.lemmas.Bool.{and_parts, cases_lt, leb-true, or_cases, true≢false}
use Rattle.std.proofs.lemmas.List.Sums.{sum_by-cons, sum_by_push}
use Rattle.std.proofs.lemmas.List.FromFn.{map-range_with_len_more}
use Rattle.std.proofs.lemmas.List.{map-id}
use Rattle.desk_who.specs.Runs.{AreRuns, Ascend, HasValue, Run, holds}
use Rattle.page_data.specs.Class.{same_class}
use Rattle.page_data.specs.Counts.{class_count, count_within}
use Rattle.page_data.specs.PrivateCounts.{shared, shared_by_class}
use Rattle.page_data.specs.declared.class.Class.{Class}

-- ---- the numbers fit
module _ (class : Class) (first last : ℕ) where
  abbrev part : Run Class → ℕ
  part run = cond (same_class run.value class) (shared first last run) 0

  part_small : (run : Run Class) → part run ≤ run.last + 1 - run.first
  part_small run = small (same_class run.value class)
    where
      small : (b : Bool) → cond b (shared first last run) 0 ≤ run.last + 1 - run.first
      small true = omega arith
      small false = omega arith

  begun : (class_at : ℕ → Class) (from : ℕ) (runs : List (Run Class)) → AllByRecursion (λ run. from ≤ run.first) runs → AllByRecursion (HasValue class_at) runs → Ascend runs
      → (i : ℕ) (d : Run Class) → i < length runs → from + sum_by part (take i runs) ≤ (get_or runs i d).first
  begun class_at from [] later values ascend i d within = absurd (omega arith)
  begun class_at from (run ∷ runs) later values ascend zero d within = let l = later.0 in omega arith
  begun class_at from (run ∷ runs) later values ascend (suc i) d within =
      let rest = begun class_at (run.last + 1) runs (behind runs ascend.0) values.1 ascend.1 i d (omega arith) in
      let few = part_small run in
      let l = later.0 in
      let p = values.0.proper in
      omega (arith, sum_by-cons part run (take i runs))
    where
      behind : (some : List (Run Class)) → AllByRecursion (λ later. run.last < later.first) some → AllByRecursion (λ later. run.last + 1 ≤ later.first) some
      behind [] all = tt
      behind (one ∷ some) all = (let h = all.0 in omega arith, behind some all.1)

  -- what is counted so far is at most where the next run begins
  pub fits_so_far : (class_at : ℕ → Class) (runs : List (Run Class)) → AreRuns class_at runs → (i : ℕ) (d : Run Class) → i < length runs → sum_by part (take i runs) ≤ (get_or runs i d).first
  fits_so_far class_at runs are i d within = let b = begun class_at 0 runs (all_from runs) are.values are.ascend i d within in omega arith
    where
      all_from : (some : List (Run Class)) → AllByRecursion (λ run. 0 ≤ run.first) some
      all_from [] = tt
      all_from (one ∷ some) = (omega arith, all_from some)

-- ---- one address more
module _ (class_at : ℕ → Class) (class : Class) (first behind : ℕ) (begins : first ≤ behind) where
  -- the addresses of a run from the first on, and before another
  abbrev before : ℕ → Run Class → ℕ
  before end run = min end (run.last + 1) - max first run.first

  abbrev counted : ℕ → Run Class → ℕ
  counted end run = cond (same_class run.value class) (before end run) 0

  abbrev own : ℕ
  own = cond (same_class (class_at behind) class) 1 0

  one_more : (run : Run Class) → run.first ≤ behind → behind ≤ run.last → before (behind + 1) run ≡ before behind run + 1
  one_more run low high = omega arith

  none_more : (run : Run Class) → (run.last < behind) → before (behind + 1) run ≡ before behind run
  none_more run less = omega arith

  not_yet : (run : Run Class) → behind < run.first → before (behind + 1) run ≡ before behind run
  not_yet run less = omega arith

  adds : (run : Run Class) → class_at behind ≡ run.value → before (behind + 1) run ≡ before behind run + 1 → counted (behind + 1) run ≡ counted behind run + own
  adds run value more =
      go (same_class run.value class) (ap (λ c. same_class c class) value)
    where
      go : (b : Bool) → same_class (class_at behind) class ≡ b → cond b (before (behind + 1) run) 0 ≡ cond b (before behind run) 0 + own
      go true e = more ∙ ap (λ b. before behind run + cond b 1 0) (sym e)
      go false e = ap (λ b. 0 + cond b 1 0) (sym e)

  keeps : (run : Run Class) → before (behind + 1) run ≡ before behind run → counted (behind + 1) run ≡ counted behind run
  keeps run same = ap (λ n. cond (same_class run.value class) n 0) same

  later_keep : (runs : List (Run Class)) → AllByRecursion (λ run. behind < run.first) runs → sum_by (counted (behind + 1)) runs ≡ sum_by (counted behind) runs
  later_keep [] later = refl
  later_keep (run ∷ runs) later =
      let rest = later_keep runs later.1 in
      let here = keeps run (not_yet run later.0) in
      omega (arith, sum_by-cons (counted (behind + 1)) run runs, sum_by-cons (counted behind) run runs)

  all_later : (least : ℕ) (runs : List (Run Class)) → behind ≤ least → AllByRecursion (λ later. least < later.first) runs → AllByRecursion (λ run. behind < run.first) runs
  all_later least [] le later = tt
  all_later least (run ∷ runs) le later = (let l = later.0 in omega arith, all_later least runs le later.1)

  nothing : (runs : List (Run Class)) → AllByRecursion (λ run. behind < run.first) runs → list_any (holds behind) runs ≡ true → ⊥
  nothing [] later held = true≢false (sym held)
  nothing (run ∷ runs) later held =
      elim (or_cases (holds behind run) _ held) [
        | inl here ↦ absurd (let l = leb-true run.first behind (and_parts _ _ here).0 in let m = later.0 in omega arith)
        | inr there ↦ nothing runs later.1 there
      ]

  pub step : (runs : List (Run Class)) → AllByRecursion (HasValue class_at) runs → Ascend runs → list_any (holds behind) runs ≡ true → sum_by (counted (behind + 1)) runs ≡ sum_by (counted behind) runs + own
  step [] values ascend held = absurd (true≢false (sym held))
  step (run ∷ runs) values ascend held =
      let left = sum_by-cons (counted (behind + 1)) run runs in
      let right = sum_by-cons (counted behind) run runs in
      elim (cases_lt run.last behind) as (λ _. sum_by (counted (behind + 1)) (run ∷ runs) ≡ sum_by (counted behind) (run ∷ runs) + own) [
        | inl less ↦
            let there = elim (or_cases (holds behind run) _ held) as (λ _. list_any (holds behind) runs ≡ true) [
              | inl here ↦ absurd (let l = leb-true behind run.last (and_parts _ _ here).1 in omega arith)
              | inr there ↦ there
            ] in
            let rest = step runs values.1 ascend.1 there in
            let here = keeps run (none_more run less) in
            omega arith
        | inr le ↦
            let low : run.first ≤ behind = elim (or_cases (holds behind run) _ held) as (λ _. run.first ≤ behind) [
              | inl here ↦ leb-true run.first behind (and_parts _ _ here).0
              | inr there ↦ absurd (nothing runs (all_later run.last runs le ascend.0) there)
            ] in
            let rest = later_keep runs (all_later run.last runs le ascend.0) in
            let here = adds run (values.0.values behind low le) (one_more run low le) in
            omega arith
      ]

-- ---- all of them
module _ (class_at : ℕ → Class) (runs : List (Run Class)) (are : AreRuns class_at runs) (class : Class) (first : ℕ) where
  abbrev test : ℕ → Bool
  test address = same_class (class_at address) class

  range_more : (n : ℕ) → range_with_len first (n + 1) ≡ range_with_len first n ++ (first + n) ∷ []
  range_more n = sym (map-id (range_with_len first (n + 1))) ∙ map-range_with_len_more (λ (x : ℕ). x) first n (first + n) refl ∙ ap (λ xs. xs ++ (first + n) ∷ []) (map-id (range_with_len first n))

  nothing_before : (some : List (Run Class)) → sum_by (counted class_at class first first (omega arith) first) some ≡ 0
  nothing_before [] = refl
  nothing_before (run ∷ some) =
      let rest = nothing_before some in
      let here : counted class_at class first first (omega arith) first run ≡ 0 = zero_part (same_class run.value class) in
      omega (arith, sum_by-cons (counted class_at class first first (omega arith) first) run some)
    where
      zero_part : (b : Bool) → cond b (min first (run.last + 1) - max first run.first) 0 ≡ 0
      zero_part true = omega arith
      zero_part false = refl

  counts_up : (n : ℕ) → first + n ≤ 2 ^ 32 → count_by test (range_with_len first n) ≡ sum_by (λ run. cond (same_class run.value class) (min (first + n) (run.last + 1) - max first run.first) 0) runs
  counts_up zero fits = sym (ap (λ end. sum_by (λ (run : Run Class). cond (same_class run.value class) (min end (run.last + 1) - max first run.first) 0) runs) (omega arith) ∙ nothing_before runs)
  counts_up (suc n) fits =
      let e : suc n ≡ n + 1 = omega arith in
      let rest = counts_up n (omega arith) in
      let more = step class_at class first (first + n) (omega arith) runs are.values are.ascend (are.complete (first + n) (omega arith)) in
      ap (λ m. count_by test (range_with_len first m)) e
      ∙ ap (count_by test) (range_more n)
      ∙ sum_by_push (λ x. cond (test x) 1 0) (range_with_len first n) (first + n)
      ∙ ap (λ s. s + cond (test (first + n)) 1 0) rest
      ∙ sym more
      ∙ ap (λ end. sum_by (λ (run : Run Class). cond (same_class run.value class) (min end (run.last + 1) - max first run.first) 0) runs) (omega arith)

  -- what the runs share with a range is just what it has of the class
  pub counted_is : (last : ℕ) → last < 2 ^ 32 → class_count class_at class first last ≡ shared_by_class class first last runs
  unfolding count_within
  counted_is last fits =
      elim (cases_lt (last + 1) first) as (λ _. class_count class_at class first last ≡ shared_by_class class first last runs) [
        | inl less ↦ (let nothing : last + 1 - first ≡ 0 = omega arith in ap (λ n. count_by test (range_with_len first n)) nothing ∙ sym (none runs less))
        | inr le ↦ counts_up (last + 1 - first) (omega arith) ∙ same runs le
      ]
    where
      none_part : (b : Bool) (run : Run Class) → last + 1 < first → cond b (shared first last run) 0 ≡ 0
      none_part true run less = omega arith
      none_part false run less = refl

      none : (some : List (Run Class)) → last + 1 < first → shared_by_class class first last some ≡ 0
      none [] less = refl
      none (run ∷ some) less =
          let rest = none some less in
          let here = none_part (same_class run.value class) run less in
          omega (arith, sum_by-cons (λ (one : Run Class). cond (same_class one.value class) (shared first last one) 0) run some)

      same_part : (b : Bool) (run : Run Class) → first ≤ last + 1 → cond b (min (first + (last + 1 - first)) (run.last + 1) - max first run.first) 0 ≡ cond b (shared first last run) 0
      same_part true run le = omega arith
      same_part false run le = refl

      same : (some : List (Run Class)) → first ≤ last + 1 → sum_by (λ run. cond (same_class run.value class) (min (first + (last + 1 - first)) (run.last + 1) - max first run.first) 0) some ≡ shared_by_class class first last some
      same [] le = refl
      same (run ∷ some) le =
          let rest = same some le in
          let here = same_part (same_class run.value class) run le in
          omega (
            arith,
            sum_by-cons (λ (one : Run Class). cond (same_class one.value class) (shared first last one) 0) run some,
            sum_by-cons (λ (one : Run Class). cond (same_class one.value class) (min (first + (last + 1 - first)) (one.last + 1) - max first one.first) 0) run some,
          )
