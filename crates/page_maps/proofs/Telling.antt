-- The runs of a function of addresses tell its classes.
use Rattle.std.proofs.Common.{◌≡◌, ℕ, zero, suc, ◌<◌, ◌≤◌, ◌^◌, ◌∙◌, true, List, [], ◌∷◌, ap, arith, get_or, inl, inr, length, map, refl, subst, sym}
use Rattle.std.specs.Prelude.{Contains}
use Rattle.std.specs.List.{AllByRecursion, list_any}
use Rattle.std.proofs.lemmas.Bool.{and_parts, leb-true, or_cases, true≢false}
use Rattle.std.proofs.lemmas.List.{get_or-map, length-map}
use Rattle.std.proofs.lemmas.List.Elements.{All-from_recursion}
use Rattle.desk_text.specs.Address.{number_of}
use Rattle.desk_who.specs.Runs.{AreRuns, Ascend, HasValue, Run, holds}
use Rattle.desk_who.specs.declared.runs.Run.{Run as KeptRun}
use Rattle.page_data.specs.Classes.{class_run}
use Rattle.page_data.specs.declared.class.Class.{Class}
use Rattle.page_maps.specs.PrivateCells.{IsHeld, TellClasses}
use Rattle.page_data.proofs.Containing.{here, there}

abbrev pub Kept : Type 0
Kept = KeptRun Class

pub held : (address : ℕ) (runs : List Kept) → list_any (holds address) (map class_run runs) ≡ true → IsHeld runs address
held address [] any = absurd (true≢false (sym any))
held address (run ∷ runs) any =
    elim (or_cases (holds address (class_run run)) (list_any (holds address) (map class_run runs)) any) as (λ _. IsHeld (run ∷ runs) address) [
      | inl own ↦
          let p = and_parts _ _ own in
          record { run = run; has = here run run runs refl; from = leb-true (number_of run.first) address p.0; to = leb-true address (number_of run.last) p.1 }
      | inr later ↦ (let rest = held address runs later in record { run = rest.run; has = there run rest.run runs rest.has; from = rest.from; to = rest.to })
    ]

module _ (class_at : ℕ → Class) where
  abbrev given : List Kept → List (Run Class)
  given runs = map class_run runs

  abbrev Values : List Kept → Type 0
  Values runs = AllByRecursion (HasValue class_at) (given runs) × Ascend (given runs)

  -- a later run begins behind the end of one, and does not end before it begins
  behind : (run : Kept) (runs : List Kept) → Values (run ∷ runs) → (j : ℕ) (d : Kept) → j < length runs
      → (number_of run.last < number_of (get_or runs j d).first) × (number_of (get_or runs j d).first ≤ number_of (get_or runs j d).last)
  behind run runs are j d within =
      let value = class_run d in
      let few : length (given runs) ≡ length runs = length-map runs class_run in
      let at : get_or (given runs) j value ≡ class_run (get_or runs j d) = get_or-map class_run runs j d value within in
      let begins = All-from_recursion (λ (later : Run Class). number_of run.last < later.first) (given runs) are.1.0 j value (omega arith) in
      let own = All-from_recursion (HasValue class_at) (given runs) are.0.1 j value (omega arith) in
      let proper = own.proper in
      (omega (arith, ap (λ (r : Run Class). r.first) at), omega (arith, ap (λ (r : Run Class). r.first) at, ap (λ (r : Run Class). r.last) at))

  firsts_rise : (runs : List Kept) → Values runs → (i j : ℕ) (d : Kept) → i ≤ j → j < length runs → number_of (get_or runs i d).first ≤ number_of (get_or runs j d).first
  firsts_rise [] are i j d le within = absurd (omega arith)
  firsts_rise (run ∷ runs) are zero zero d le within = omega arith
  firsts_rise (run ∷ runs) are zero (suc j) d le within =
      let later = behind run runs are j d (omega arith) in
      let proper = are.0.0.proper in
      omega (arith, later.0)
  firsts_rise (run ∷ runs) are (suc i) zero d le within = absurd (omega arith)
  firsts_rise (run ∷ runs) are (suc i) (suc j) d le within = firsts_rise runs (are.0.1, are.1.1) i j d (omega arith) (omega arith)

  lasts_rise : (runs : List Kept) → Values runs → (i j : ℕ) (d : Kept) → i ≤ j → j < length runs → number_of (get_or runs i d).last ≤ number_of (get_or runs j d).last
  lasts_rise [] are i j d le within = absurd (omega arith)
  lasts_rise (run ∷ runs) are zero zero d le within = omega arith
  lasts_rise (run ∷ runs) are zero (suc j) d le within =
      let later = behind run runs are j d (omega arith) in
      omega (arith, later.0, later.1)
  lasts_rise (run ∷ runs) are (suc i) zero d le within = absurd (omega arith)
  lasts_rise (run ∷ runs) are (suc i) (suc j) d le within = lasts_rise runs (are.0.1, are.1.1) i j d (omega arith) (omega arith)

  values_of : (runs : List Kept) → AllByRecursion (HasValue class_at) (given runs) → (run : Kept) → Contains runs run → HasValue class_at (class_run run)
  values_of runs values run has =
      let within = has.1 in
      let few : length (given runs) ≡ length runs = length-map runs class_run in
      subst (HasValue class_at) (get_or-map class_run runs has.0 run (class_run run) within ∙ ap class_run has.2)
      (All-from_recursion (HasValue class_at) (given runs) values has.0 (class_run run) (omega arith))

  pub tells : (runs : List Kept) → AreRuns class_at (map class_run runs) → (first last : ℕ) → last < 2 ^ 32 → TellClasses class_at first last runs
  tells runs are first last fits = record {
    firsts = firsts_rise runs (are.values, are.ascend);
    lasts = lasts_rise runs (are.values, are.ascend);
    values = values_of runs are.values;
    complete = λ address low high. held address runs (are.complete address (omega arith));
  }
