-- The range that holds an address is the first that does not end before it, if it begins there or before.
use Rattle.std.proofs.Common.{◌≡◌, ℕ, zero, suc, ◌<◌, ◌≤◌, ◌&&◌, Bool, true, false, cond, List, [], ◌∷◌, length, map, get_or, sym, ◌∙◌, ap, subst, inl, inr, refl, arith}
use Rattle.std.specs.Prelude.{Option, Some, None, find, nat_le, nat_lt}
use Rattle.std.specs.List.{AllByRecursion}
use Rattle.std.specs.List.Sorted.{IsPartitionPoint, IsPartitionedBy}
use Rattle.std.specs.Option.{option_map}
use Rattle.std.proofs.lemmas.Bool.{and_from, and_parts, cases_Bool, false_from_ne_true, le-leb, leb-true, lt-ltb, ltb-false, ltb-true}
use Rattle.std.proofs.lemmas.List.{get_or-map, length-map}
use Rattle.std.proofs.lemmas.List.Elements.{All-from_recursion}
use Rattle.desk_text.specs.Address.{number_of}
use Rattle.desk_who.specs.PrivateMostlySame.{AreRanges, held_value}
use Rattle.desk_who.specs.Runs.{Run, holds, run_value}
use Rattle.desk_who.specs.declared.runs.Run.{Run as KeptRun}

module _ {T A : Type 0} (meaning : T → A) where
  abbrev given : List (KeptRun T) → List (Run A)
  given others = map (run_value meaning) others

  abbrev Value : List (Run A) → ℕ → Option A
  Value runs address = held_value address runs

  rest_of : (run : KeptRun T) (others : List (KeptRun T)) → AreRanges (given (run ∷ others)) → AreRanges (given others)
  rest_of run others ranges = record { proper = ranges.proper.1; ascend = ranges.ascend.1 }

  -- ranges end one behind the other
  last_rises : (others : List (KeptRun T)) → AreRanges (given others) → (i j : ℕ) (d : KeptRun T) → i ≤ j → j < length others → number_of (get_or others i d).last ≤ number_of (get_or others j d).last
  last_rises [] ranges i j d le within = absurd (omega arith)
  last_rises (run ∷ others) ranges zero zero d le within = omega arith
  last_rises (run ∷ others) ranges zero (suc j) d le within =
      let value = run_value meaning d in
      let few : length (given others) ≡ length others = length-map others (run_value meaning) in
      let at : get_or (given others) j value ≡ run_value meaning (get_or others j d) = get_or-map (run_value meaning) others j d value (omega arith) in
      let begins = All-from_recursion (λ (later : Run A). number_of run.last < later.first) (given others) ranges.ascend.0 j value (omega arith) in
      let proper = All-from_recursion (λ (range : Run A). range.first ≤ range.last) (given others) ranges.proper.1 j value (omega arith) in
      omega (arith, ap (λ (r : Run A). r.first) at, ap (λ (r : Run A). r.last) at)
  last_rises (run ∷ others) ranges (suc i) zero d le within = absurd (omega arith)
  last_rises (run ∷ others) ranges (suc i) (suc j) d le within = last_rises others (rest_of run others ranges) i j d (omega arith) (omega arith)

  abbrev pub ends_before : ℕ → KeptRun T → Bool
  ends_before address run = nat_lt (number_of run.last) address

  pub ends_parted : (others : List (KeptRun T)) (address : ℕ) → AreRanges (given others) → IsPartitionedBy (ends_before address) others
  ends_parted others address ranges i j d le within passes =
      let rises = last_rises others ranges i j d le within in
      let l = ltb-true (number_of (get_or others j d).last) address passes in
      lt-ltb (number_of (get_or others i d).last) address (omega arith)

  -- a range that ends before an address, or begins behind it, does not hold it
  ended : (address : ℕ) (run : KeptRun T) → number_of run.last < address → holds address (run_value meaning run) ≡ false
  ended address run less = false_from_ne_true _ (λ is. let p = and_parts _ _ is in let l = leb-true address (number_of run.last) p.1 in omega arith)

  away : (address : ℕ) (run : Run A) (runs : List (Run A)) → holds address run ≡ false → Value (run ∷ runs) address ≡ Value runs address
  away address run runs not = ap (λ b. option_map (λ (r : Run A). r.value) (cond b (Some run) (find (holds address) runs))) not

  none_later : (address : ℕ) (runs : List (Run A)) → AllByRecursion (λ later. address < later.first) runs → Value runs address ≡ None
  none_later address [] later = refl
  none_later address (run ∷ runs) later =
      let l = later.0 in
      away address run runs (false_from_ne_true _ (λ is. let p = and_parts _ _ is in let m = leb-true run.first address p.0 in omega arith)) ∙ none_later address runs later.1

  all_later : (address least : ℕ) (runs : List (Run A)) → address ≤ least → AllByRecursion (λ later. least < later.first) runs → AllByRecursion (λ later. address < later.first) runs
  all_later address least [] le later = tt
  all_later address least (run ∷ runs) le later = (let l = later.0 in omega arith, all_later address least runs le later.1)

  first_holds : (address : ℕ) (run : KeptRun T) (others : List (KeptRun T)) → AreRanges (given (run ∷ others)) → address ≤ number_of run.last
      → Value (given (run ∷ others)) address ≡ cond (nat_le (number_of run.first) address) (Some (meaning run.value)) None
  first_holds address run others ranges le =
      elim (cases_Bool (nat_le (number_of run.first) address)) as (λ _. Value (given (run ∷ others)) address ≡ cond (nat_le (number_of run.first) address) (Some (meaning run.value)) None) [
        | inl is ↦
            ap (λ b. option_map (λ (r : Run A). r.value) (cond b (Some (run_value meaning run)) (find (holds address) (given others))))
            (and_from (nat_le (number_of run.first) address) (nat_le address (number_of run.last)) is (le-leb address (number_of run.last) le))
            ∙ sym (ap (λ b. cond b (Some (meaning run.value)) None) is)
        | inr not ↦
            away address (run_value meaning run) (given others) (ap (λ b. b && nat_le address (number_of run.last)) not)
            ∙ none_later address (given others) (all_later address (number_of run.last) (given others) le ranges.ascend.0)
            ∙ sym (ap (λ b. cond b (Some (meaning run.value)) None) not)
      ]

  held_at : (address : ℕ) (others : List (KeptRun T)) → AreRanges (given others) → (k : ℕ) (run : KeptRun T) → k < length others → run ≡ get_or others k run
      → ((i : ℕ) (d : KeptRun T) → i < k → number_of (get_or others i d).last < address) → address ≤ number_of run.last
      → Value (given others) address ≡ cond (nat_le (number_of run.first) address) (Some (meaning run.value)) None
  held_at address [] ranges k run within is before le = absurd (omega arith)
  held_at address (first ∷ others) ranges zero run within is before le =
      let e : run ≡ first = is in
      subst (λ (one : KeptRun T). Value (given (first ∷ others)) address ≡ cond (nat_le (number_of one.first) address) (Some (meaning one.value)) None) (sym e)
      (first_holds address first others ranges (omega (arith, ap (λ (r : KeptRun T). number_of r.last) e)))
  held_at address (first ∷ others) ranges (suc k) run within is before le =
      away address (run_value meaning first) (given others) (ended address first (before 0 first (omega arith)))
      ∙ held_at address others (rest_of first others ranges) k run (omega arith) is (λ i d less. before (suc i) d (omega arith)) le

  held_past : (address : ℕ) (others : List (KeptRun T)) → ((i : ℕ) (d : KeptRun T) → i < length others → number_of (get_or others i d).last < address) → Value (given others) address ≡ None
  held_past address [] before = refl
  held_past address (first ∷ others) before =
      away address (run_value meaning first) (given others) (ended address first (before 0 first (omega arith))) ∙ held_past address others (λ i d less. before (suc i) d (omega arith))

  abbrev EndsAt : List (KeptRun T) → ℕ → ℕ → Type 0
  EndsAt others address k = IsPartitionPoint (λ run. ends_before address run ≡ true) (λ run. ends_before address run ≡ false) others k

  -- what a binary search finds
  pub held_found : (address : ℕ) (others : List (KeptRun T)) → AreRanges (given others) → (k : ℕ) (run : KeptRun T) → EndsAt others address k → k < length others → run ≡ get_or others k run
      → held_value address (given others) ≡ cond (nat_le (number_of run.first) address) (Some (meaning run.value)) None
  held_found address others ranges k run point within is =
      let here : ends_before address run ≡ false = ap (ends_before address) is ∙ point.1 k run (omega arith) within in
      held_at address others ranges k run within is
      (λ i d less. ltb-true (number_of (get_or others i d).last) address (point.0 i d (omega arith) less))
      (ltb-false (number_of run.last) address here)

  pub held_none : (address : ℕ) (others : List (KeptRun T)) (k : ℕ) → EndsAt others address k → length others ≤ k → held_value address (given others) ≡ None
  held_none address others k point past =
      held_past address others (λ i d less. ltb-true (number_of (get_or others i d).last) address (point.0 i d (omega arith) (omega arith)))
