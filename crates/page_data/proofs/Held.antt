-- The value of an address among the runs of a function of addresses: that of the first run that does not end before it.
use Rattle.std.proofs.Common.{◌≡◌, ℕ, zero, suc, ◌<◌, ◌≤◌, ◌^◌, ◌∙◌, Bool, true, false, List, [], ◌∷◌, ap, arith, get_or, inl, inr, length, map, sym}
use Rattle.std.specs.Prelude.{nat_le, nat_lt}
use Rattle.std.specs.List.{AllByRecursion, list_any}
use Rattle.std.specs.List.Sorted.{IsPartitionPoint, IsPartitionedBy}
use Rattle.std.proofs.lemmas.Bool.{and_parts, leb-true, lt-ltb, ltb-false, ltb-true, or_cases, true≢false}
use Rattle.std.proofs.lemmas.List.{get_or-map, length-map}
use Rattle.std.proofs.lemmas.List.Elements.{All-from_recursion}
use Rattle.desk_text.specs.Address.{number_of}
use Rattle.desk_who.specs.Runs.{AreRuns, Ascend, HasValue, Run, holds, run_value}
use Rattle.desk_who.specs.declared.runs.Run.{Run as KeptRun}

module _ {T A : Type 0} (meaning : T → A) (value_at : ℕ → A) where
  abbrev given : List (KeptRun T) → List (Run A)
  given runs = map (run_value meaning) runs

  abbrev Values : List (KeptRun T) → Type 0
  Values runs = AllByRecursion (HasValue value_at) (given runs) × Ascend (given runs)

  -- runs end one behind the other
  last_rises : (runs : List (KeptRun T)) → Values runs → (i j : ℕ) (d : KeptRun T) → i ≤ j → j < length runs → number_of (get_or runs i d).last ≤ number_of (get_or runs j d).last
  last_rises [] are i j d le within = absurd (omega arith)
  last_rises (run ∷ runs) are zero zero d le within = omega arith
  last_rises (run ∷ runs) are zero (suc j) d le within =
      let value = run_value meaning d in
      let few : length (given runs) ≡ length runs = length-map runs (run_value meaning) in
      let at : get_or (given runs) j value ≡ run_value meaning (get_or runs j d) = get_or-map (run_value meaning) runs j d value (omega arith) in
      let begins = All-from_recursion (λ (later : Run A). number_of run.last < later.first) (given runs) are.1.0 j value (omega arith) in
      let own = All-from_recursion (HasValue value_at) (given runs) are.0.1 j value (omega arith) in
      let proper = own.proper in
      omega (arith, ap (λ (r : Run A). r.first) at, ap (λ (r : Run A). r.last) at)
  last_rises (run ∷ runs) are (suc i) zero d le within = absurd (omega arith)
  last_rises (run ∷ runs) are (suc i) (suc j) d le within = last_rises runs (are.0.1, are.1.1) i j d (omega arith) (omega arith)

  abbrev pub ends_before : ℕ → KeptRun T → Bool
  ends_before address run = nat_lt (number_of run.last) address

  parted : (runs : List (KeptRun T)) (address : ℕ) → Values runs → IsPartitionedBy (ends_before address) runs
  parted runs address are i j d le within passes =
      let rises = last_rises runs are i j d le within in
      let l = ltb-true (number_of (get_or runs j d).last) address passes in
      lt-ltb (number_of (get_or runs i d).last) address (omega arith)

  none_holds : (address least : ℕ) (runs : List (Run A)) → address ≤ least → AllByRecursion (λ later. least < later.first) runs → list_any (holds address) runs ≡ true → ⊥
  none_holds address least [] le later held = true≢false (sym held)
  none_holds address least (run ∷ runs) le later held =
      elim (or_cases (holds address run) _ held) [
        | inl here ↦ (let low = leb-true run.first address (and_parts _ _ here).0 in let l = later.0 in absurd (omega arith))
        | inr there ↦ none_holds address least runs le later.1 there
      ]

  -- a run that ends before an address does not hold it
  past : (address : ℕ) (run : KeptRun T) (runs : List (KeptRun T)) → number_of run.last < address → list_any (holds address) (given (run ∷ runs)) ≡ true → list_any (holds address) (given runs) ≡ true
  past address run runs less held =
      elim (or_cases (holds address (run_value meaning run)) _ held) [
        | inl here ↦ absurd (let l : address ≤ number_of run.last = leb-true address (number_of run.last) (and_parts (nat_le (number_of run.first) address) (nat_le address (number_of run.last)) here).1 in omega arith)
        | inr there ↦ there
      ]

  held_at : (address : ℕ) (runs : List (KeptRun T)) → Values runs → list_any (holds address) (given runs) ≡ true → (k : ℕ) (run : KeptRun T) → k < length runs → run ≡ get_or runs k run
      → ((i : ℕ) (d : KeptRun T) → i < k → number_of (get_or runs i d).last < address) → address ≤ number_of run.last → meaning run.value ≡ value_at address
  held_at address [] are held k run within is before le = absurd (omega arith)
  held_at address (first ∷ runs) are held zero run within is before le =
      let e : run ≡ first = is in
      let up : address ≤ number_of first.last = omega (arith, ap (λ (r : KeptRun T). number_of r.last) e) in
      elim (or_cases (holds address (run_value meaning first)) _ held) as (λ _. meaning run.value ≡ value_at address) [
        | inl here ↦
            let p = and_parts _ _ here in
            ap (λ (r : KeptRun T). meaning r.value) e ∙ sym (are.0.0.values address (leb-true (number_of first.first) address p.0) (leb-true address (number_of first.last) p.1))
        | inr there ↦ absurd (none_holds address (number_of first.last) (given runs) up are.1.0 there)
      ]
  held_at address (first ∷ runs) are held (suc k) run within is before le =
      held_at address runs (are.0.1, are.1.1) (past address first runs (before 0 first (omega arith)) held) k run (omega arith) is (λ i d less. before (suc i) d (omega arith)) le

  held_past : (address : ℕ) (runs : List (KeptRun T)) → ((i : ℕ) (d : KeptRun T) → i < length runs → number_of (get_or runs i d).last < address) → list_any (holds address) (given runs) ≡ true → ⊥
  held_past address [] before held = true≢false (sym held)
  held_past address (first ∷ runs) before held =
      held_past address runs (λ i d less. before (suc i) d (omega arith)) (past address first runs (before 0 first (omega arith)) held)

  abbrev EndsAt : List (KeptRun T) → ℕ → ℕ → Type 0
  EndsAt runs address k = IsPartitionPoint (λ run. ends_before address run ≡ true) (λ run. ends_before address run ≡ false) runs k

  module _ (runs : List (KeptRun T)) (are : AreRuns value_at (map (run_value meaning) runs)) (address : ℕ) (fits : address < 2 ^ 32) where
    pub ends_parted : IsPartitionedBy (ends_before address) runs
    ends_parted = parted runs address (are.values, are.ascend)

    -- what a binary search finds
    pub held_found : (k : ℕ) (run : KeptRun T) → EndsAt runs address k → k < length runs → run ≡ get_or runs k run → meaning run.value ≡ value_at address
    held_found k run point within is =
        let here : ends_before address run ≡ false = ap (ends_before address) is ∙ point.1 k run (omega arith) within in
        held_at address runs (are.values, are.ascend) (are.complete address fits) k run within is
        (λ i d less. ltb-true (number_of (get_or runs i d).last) address (point.0 i d (omega arith) less))
        (ltb-false (number_of run.last) address here)

    pub held_none : (k : ℕ) → EndsAt runs address k → length runs ≤ k → ⊥
    held_none k point over =
        held_past address runs (λ i d less. ltb-true (number_of (get_or runs i d).last) address (point.0 i d (omega arith) (omega arith))) (are.complete address fits)
