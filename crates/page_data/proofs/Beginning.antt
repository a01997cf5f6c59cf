-- A function of addresses changes only where one of its runs begins.
use Rattle.std.proofs.Common.{◌≡◌, ℕ, ◌+◌, ◌++◌, ◌||◌, ◌∙◌, true, false, cond, eqb, List, [], ◌∷◌, ap, arith, inl, inr, map, refl, sym}
use Rattle.std.specs.List.{AllByRecursion, flat_map, list_any}
use Rattle.std.proofs.lemmas.Bool.{and_parts, cases_Bool, eq-eqb, leb-true, ne_eqb, or_cases, or_parts, true≢false}
use Rattle.std.proofs.lemmas.List.Folds.{list_any-append}
use Rattle.desk_text.specs.Address.{number_of}
use Rattle.desk_text.specs.AddrSet.{is_among, sorted_set}
use Rattle.desk_text.specs.Laws.{IsSetOf, SortedSetsAreUnique}
use Rattle.desk_who.specs.Runs.{HasValue, Run, holds, run_value}
use Rattle.desk_who.specs.declared.runs.Run.{Run as KeptRun}
use Rattle.page_data.specs.PrivateValues.{AreItsStarts, start_at}

abbrev pub firsts : {A : Type 0} → List (Run A) → List ℕ
firsts runs = flat_map (λ run. start_at run.first) runs

among_append : (n : ℕ) (xs ys : List ℕ) → is_among n (xs ++ ys) ≡ (is_among n xs || is_among n ys)
among_append n xs ys = list_any-append (λ other. eqb other n) xs ys

zero_no_start : (n : ℕ) → is_among 0 (start_at n) ≡ false
zero_no_start n =
    elim (cases_Bool (eqb n 0)) as (λ _. is_among 0 (start_at n) ≡ false) [
      | inl is ↦ ap (λ b. is_among 0 (cond b [] (n ∷ []))) is
      | inr not ↦ ap (λ b. is_among 0 (cond b [] (n ∷ []))) not ∙ ap (λ b. b || false) not
    ]

starts_there : (n : ℕ) → is_among (n + 1) (start_at (n + 1)) ≡ true
starts_there n =
    ap (λ b. is_among (n + 1) (cond b [] ((n + 1) ∷ []))) (ne_eqb (n + 1) 0 (λ is. omega arith)) ∙ ap (λ b. b || false) (eq-eqb (n + 1) (n + 1) refl)

module _ {A : Type 0} where
  zero_first : (runs : List (Run A)) → is_among 0 (firsts runs) ≡ false
  zero_first [] = refl
  zero_first (run ∷ runs) = among_append 0 (start_at run.first) (firsts runs) ∙ ap (λ b. b || is_among 0 (firsts runs)) (zero_no_start run.first) ∙ zero_first runs

  steady : (value_at : ℕ → A) (address : ℕ) (runs : List (Run A)) → AllByRecursion (HasValue value_at) runs → list_any (holds (address + 1)) runs ≡ true → is_among (address + 1) (firsts runs) ≡ false
      → value_at (address + 1) ≡ value_at address
  steady value_at address [] values held none = absurd (true≢false (sym held))
  steady value_at address (run ∷ runs) values held none =
      let apart = or_parts _ _ (sym (among_append (address + 1) (start_at run.first) (firsts runs)) ∙ none) in
      elim (or_cases (holds (address + 1) run) _ held) as (λ _. value_at (address + 1) ≡ value_at address) [
        | inl here ↦
            let p = and_parts _ _ here in
            let low = leb-true run.first (address + 1) p.0 in
            let high = leb-true (address + 1) run.last p.1 in
            let begins : run.first ≡ address + 1 → ⊥ = λ is. true≢false (sym (starts_there address) ∙ ap (λ n. is_among (address + 1) (start_at n)) (sym is) ∙ apart.0) in
            values.0.values (address + 1) low high ∙ sym (values.0.values address (omega (arith, begins)) (omega arith))
        | inr there ↦ steady value_at address runs values.1 there apart.1
      ]

  pub behind_starts : SortedSetsAreUnique → (runs : List (Run A)) (numbers set : List ℕ) → numbers ≡ firsts runs → set ≡ sorted_set numbers → is_among 0 set ≡ false
  behind_starts sets runs numbers set are is =
      let made : IsSetOf numbers set = (sets numbers set).1 is in
      made.each 0 ∙ ap (is_among 0) are ∙ zero_first runs

  pub its_starts : SortedSetsAreUnique → (runs : List (Run A)) (numbers set : List ℕ) → numbers ≡ firsts runs → set ≡ sorted_set numbers → AreItsStarts runs set
  its_starts sets runs numbers set are is value_at runs_are =
      let made : IsSetOf numbers set = (sets numbers set).1 is in
      record {
        ascend = made.ascend;
        behind = made.each 0 ∙ ap (is_among 0) are ∙ zero_first runs;
        steady = λ address fits none.
            steady value_at address runs runs_are.values (runs_are.complete (address + 1) fits) (ap (is_among (address + 1)) (sym are) ∙ sym (made.each (address + 1)) ∙ none);
      }

-- the first addresses of runs as they are kept
pub firsts_by_value : {T A : Type 0} (meaning : T → A) (runs : List (KeptRun T)) → flat_map (λ run. start_at (number_of run.first)) runs ≡ firsts (map (run_value meaning) runs)
firsts_by_value meaning [] = refl
firsts_by_value meaning (run ∷ runs) = ap (λ ns. start_at (number_of run.first) ++ ns) (firsts_by_value meaning runs)
