-- What runs with a value tell: of runs that have a value or none, those that have one.
use Rattle.std.proofs.Common.{◌≡◌, ℕ, ◌<◌, ◌^◌, ◌||◌, true, false, cond, List, [], ◌∷◌, sym, ◌∙◌, ap, subst, refl, inl, inr, arith}
use Rattle.std.specs.Prelude.{Option, Some, None, find}
use Rattle.std.specs.List.{AllByRecursion, list_any}
use Rattle.std.specs.Option.{option_map}
use Rattle.std.proofs.lemmas.Bool.{and_parts, cases_Bool, leb-true, true≢false}
use Rattle.desk_who.specs.Runs.{AreRunsWithValue, Ascend, HasValue, NoRunIsNoValue, Run, RunsTellValues, RunsWithValueAreUnique, holds, those_with_value}
use Rattle.desk_who.proofs.Chain.{unique_runs}

-- ---- runs with a value or none, by whether the first has one
module _ {A : Type 0} where
  abbrev run_of : ℕ → ℕ → Option A → Run (Option A)
  run_of first last value = record { first = first; last = last; value = value }

  abbrev AreLater : ℕ → List (Run A) → Type 0
  AreLater least runs = AllByRecursion (λ later. least < later.first) runs

  later_with : (least first last : ℕ) (value : Option A) (runs : List (Run (Option A))) → least < first → AreLater least (those_with_value runs) → AreLater least (those_with_value (run_of first last value ∷ runs))
  later_with least first last None runs here rest = rest
  later_with least first last (Some value) runs here rest = (here, rest)

  all_later : (least : ℕ) (runs : List (Run (Option A))) → AllByRecursion (λ later. least < later.first) runs → AreLater least (those_with_value runs)
  all_later least [] all = tt
  all_later least (run ∷ runs) all = later_with least run.first run.last run.value runs all.0 (all_later least runs all.1)

  ascend_with : (first last : ℕ) (value : Option A) (runs : List (Run (Option A))) → AreLater last (those_with_value runs) → Ascend (those_with_value runs) → Ascend (those_with_value (run_of first last value ∷ runs))
  ascend_with first last None runs later rest = rest
  ascend_with first last (Some value) runs later rest = (later, rest)

  pub ascending : (runs : List (Run (Option A))) → Ascend runs → Ascend (those_with_value runs)
  ascending [] up = tt
  ascending (run ∷ runs) up = ascend_with run.first run.last run.value runs (all_later run.last runs up.0) (ascending runs up.1)

  -- what holds an address
  abbrev found : ℕ → List (Run (Option A)) → Option A
  found address runs = option_map (λ (run : Run A). run.value) (find (holds address) (those_with_value runs))

  found_here : (address first last : ℕ) (value : Option A) (runs : List (Run (Option A))) → holds address (run_of first last value) ≡ true → (value ≡ None → found address runs ≡ None)
      → found address (run_of first last value ∷ runs) ≡ value
  found_here address first last None runs here rest = rest refl
  found_here address first last (Some value) runs here rest =
      ap (λ b. option_map (λ (run : Run A). run.value) (cond b (Some (record { first = first; last = last; value = value })) (find (holds address) (those_with_value runs)))) here

  found_later : (address first last : ℕ) (value : Option A) (runs : List (Run (Option A))) → holds address (run_of first last value) ≡ false → found address (run_of first last value ∷ runs) ≡ found address runs
  found_later address first last None runs away = refl
  found_later address first last (Some value) runs away =
      ap (λ b. option_map (λ (run : Run A). run.value) (cond b (Some (record { first = first; last = last; value = value })) (find (holds address) (those_with_value runs)))) away

  module _ (value_at : ℕ → Option A) (address : ℕ) where
    own : (run : Run (Option A)) → HasValue value_at run → holds address run ≡ true → value_at address ≡ run.value
    own run value here = (let p = and_parts _ _ here in value.values address (leb-true run.first address p.0) (leb-true address run.last p.1))

    silent : (runs : List (Run (Option A))) → AllByRecursion (HasValue value_at) runs → value_at address ≡ None → found address runs ≡ None
    silent [] values none = refl
    silent (run ∷ runs) values none =
        let rest = silent runs values.1 none in
        elim (cases_Bool (holds address run)) as (λ _. found address (run ∷ runs) ≡ None) [
          | inl here ↦ found_here address run.first run.last run.value runs here (λ _. rest) ∙ sym (own run values.0 here) ∙ none
          | inr away ↦ found_later address run.first run.last run.value runs away ∙ rest
        ]

    pub told : (runs : List (Run (Option A))) → AllByRecursion (HasValue value_at) runs → list_any (holds address) runs ≡ true → found address runs ≡ value_at address
    told [] values held = absurd (true≢false (sym held))
    told (run ∷ runs) values held =
        elim (cases_Bool (holds address run)) as (λ _. found address (run ∷ runs) ≡ value_at address) [
          | inl here ↦
              let is = own run values.0 here in
              found_here address run.first run.last run.value runs here (λ none. silent runs values.1 (is ∙ none)) ∙ sym is
          | inr away ↦
              found_later address run.first run.last run.value runs away ∙ told runs values.1 (sym (ap (λ b. b || list_any (holds address) runs) away) ∙ held)
        ]

  -- none has a value, if no address has
  none_with : (first last : ℕ) (value : Option A) (runs : List (Run (Option A))) → value ≡ None → those_with_value runs ≡ [] → those_with_value (run_of first last value ∷ runs) ≡ []
  none_with first last None runs none rest = rest
  none_with first last (Some value) runs none rest = cc

  pub none_has : (value_at : ℕ → Option A) → ((address : ℕ) → address < 2 ^ 32 → value_at address ≡ None) → (runs : List (Run (Option A))) → AllByRecursion (HasValue value_at) runs → those_with_value runs ≡ []
  none_has value_at none [] values = refl
  none_has value_at none (run ∷ runs) values =
      let value = values.0 in
      none_with run.first run.last run.value runs
      (sym (value.values run.first (omega arith) value.proper) ∙ none run.first (omega (arith, value.addresses, value.proper))) (none_has value_at none runs values.1)

-- ---- laws
module _ {A : Type 0} where
  pub runs_tell_values : RunsTellValues A
  runs_tell_values value_at runs are = (
    subst Ascend (sym are.are) (ascending are.whole are.runs.ascend),
    λ address fits. ap (λ rs. option_map (λ (run : Run A). run.value) (find (holds address) rs)) are.are
        ∙ told value_at address are.whole are.runs.values (are.runs.complete address fits),
  )

  pub runs_with_value_are_unique : RunsWithValueAreUnique A
  runs_with_value_are_unique value_at runs other are are' =
      are'.are ∙ ap those_with_value (unique_runs value_at are.whole are'.whole are.runs are'.runs) ∙ sym are.are

  pub no_run_is_no_value : NoRunIsNoValue A
  no_run_is_no_value value_at runs are = (
    λ empty address fits. sym ((runs_tell_values value_at runs are).1 address fits) ∙ ap (λ rs. option_map (λ (run : Run A). run.value) (find (holds address) rs)) empty,
    λ none. are.are ∙ none_has value_at none are.whole are.runs.values,
  )

  -- ---- functions of addresses with the same values
  values_too : (value_at other_at : ℕ → Option A) → ((address : ℕ) → value_at address ≡ other_at address) → (runs : List (Run (Option A))) → AllByRecursion (HasValue value_at) runs
      → AllByRecursion (HasValue other_at) runs
  values_too value_at other_at same [] values = tt
  values_too value_at other_at same (run ∷ runs) values = (
    record {
      proper = values.0.proper;
      addresses = values.0.addresses;
      values = λ address low high. sym (same address) ∙ values.0.values address low high;
    },
    values_too value_at other_at same runs values.1,
  )

  pub same_runs : (value_at other_at : ℕ → Option A) (runs : List (Run A)) → ((address : ℕ) → value_at address ≡ other_at address) → AreRunsWithValue value_at runs → AreRunsWithValue other_at runs
  same_runs value_at other_at runs same are = record {
    whole = are.whole;
    runs = record { values = values_too value_at other_at same are.whole are.runs.values; complete = are.runs.complete; ascend = are.runs.ascend; apart = are.runs.apart };
    are = are.are;
  }
