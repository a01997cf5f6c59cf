-- The least and the most of the classes of runs are those of their addresses.
use Rattle.std.proofs.Common.{◌≡◌, ◌⊎◌, ℕ, ◌≤◌, ◌∙◌, List, [], ◌∷◌, ap, arith, inl, inr, max, refl, subst, sym}
use Rattle.std.specs.Prelude.{Contains, fold, nat_lt}
use Rattle.std.proofs.lemmas.Bool.{cases_cond, cond_both, ltb-false, ltb-true}
use Rattle.desk_text.specs.Address.{number_of}
use Rattle.page_data.specs.Class.{most_of, rank_of}
use Rattle.page_data.specs.declared.class.Class.{Class}
use Rattle.page_data.specs.declared.class.Class.TheVariants.{Denied, ReadOnly, ReadWrite, RootKept}
use Rattle.page_maps.specs.Cells.{AreLeastAndMost, HasClass}
use Rattle.page_maps.specs.PrivateCells.{AreMet, least_of, spread_of, with_run}
use Rattle.page_maps.specs.declared.cells.Cell.{Cell}
use Rattle.page_data.proofs.Containing.{here, here_or_there, there}
use Rattle.page_maps.proofs.Telling.{Kept}

-- one of the runs is of this class
record HasOne (runs : List Kept) (class : Class) : Type 0 where
  run : Kept
  has : Contains runs run
  is : run.value ≡ class

-- of a class and those of runs the one that is chosen
abbrev chosen : (Class → Class → Class) → Class → List Kept → Class
chosen choose class [] = class
chosen choose class (run ∷ runs) = chosen choose (choose class run.value) runs

least_chosen : (runs : List Kept) (cell : Cell) → (fold with_run cell runs).least ≡ chosen least_of cell.least runs
least_chosen [] cell = refl
least_chosen (run ∷ runs) cell = least_chosen runs (with_run cell run)

most_chosen : (runs : List Kept) (cell : Cell) → (fold with_run cell runs).most ≡ chosen most_of cell.most runs
most_chosen [] cell = refl
most_chosen (run ∷ runs) cell = most_chosen runs (with_run cell run)

-- one of two is chosen, that which bounds both
record Chooses (choose : Class → Class → Class) (Bounds : Class → Class → Type 0) : Type 0 where
  either : (class other : Class) → (choose class other ≡ class) ⊎ (choose class other ≡ other)
  itself : (class : Class) → Bounds class class
  through : (class middle other : Class) → Bounds class middle → Bounds middle other → Bounds class other
  left : (class other : Class) → Bounds (choose class other) class
  right : (class other : Class) → Bounds (choose class other) other

module _ (choose : Class → Class → Class) (Bounds : Class → Class → Type 0) (chooses : Chooses choose Bounds) where
  bounds_first : (class : Class) (runs : List Kept) → Bounds (chosen choose class runs) class
  bounds_first class [] = chooses.itself class
  bounds_first class (run ∷ runs) =
      chooses.through (chosen choose (choose class run.value) runs) (choose class run.value) class (bounds_first (choose class run.value) runs) (chooses.left class run.value)

  bounds_each : (class : Class) (runs : List Kept) (run : Kept) → Contains runs run → Bounds (chosen choose class runs) run.value
  bounds_each class [] run has = absurd (let lt = has.1 in omega arith)
  bounds_each class (first ∷ runs) run has =
      elim (here_or_there first run runs has) as (λ _. Bounds (chosen choose (choose class first.value) runs) run.value) [
        | inl is ↦
            subst (λ (r : Kept). Bounds (chosen choose (choose class first.value) runs) r.value) is
            (chooses.through (chosen choose (choose class first.value) runs) (choose class first.value) first.value (bounds_first (choose class first.value) runs) (chooses.right class first.value))
        | inr later ↦ bounds_each (choose class first.value) runs run later
      ]

  is_one : (class : Class) (runs : List Kept) → (chosen choose class runs ≡ class) ⊎ HasOne runs (chosen choose class runs)
  is_one class [] = inl refl
  is_one class (run ∷ runs) =
      elim (is_one (choose class run.value) runs) as (λ _. (chosen choose (choose class run.value) runs ≡ class) ⊎ HasOne (run ∷ runs) (chosen choose (choose class run.value) runs)) [
        | inl same ↦
            elim (chooses.either class run.value) as (λ _. (chosen choose (choose class run.value) runs ≡ class) ⊎ HasOne (run ∷ runs) (chosen choose (choose class run.value) runs)) [
              | inl kept ↦ inl (same ∙ kept)
              | inr taken ↦ inr (record { run = run; has = here run run runs refl; is = sym (same ∙ taken) })
            ]
        | inr some ↦ inr (record { run = some.run; has = there run some.run runs some.has; is = some.is })
      ]

  -- of some runs it is one
  has_one : (class : Class) (run : Kept) (runs : List Kept) → choose class run.value ≡ run.value → HasOne (run ∷ runs) (chosen choose class (run ∷ runs))
  has_one class run runs taken =
      elim (is_one (choose class run.value) runs) as (λ _. HasOne (run ∷ runs) (chosen choose (choose class run.value) runs)) [
        | inl same ↦ record { run = run; has = here run run runs refl; is = sym (same ∙ taken) }
        | inr some ↦ record { run = some.run; has = there run some.run runs some.has; is = some.is }
      ]

least_chooses : Chooses least_of (λ class other. rank_of class ≤ rank_of other)
least_chooses = record {
  either = λ class other. elim (cases_cond (nat_lt (rank_of other) (rank_of class)) other class (least_of class other) refl) as (λ _. (least_of class other ≡ class) ⊎ (least_of class other ≡ other)) [ inl taken ↦ inr taken | inr kept ↦ inl kept ];
  itself = λ class. omega arith;
  through = λ class middle other le le'. omega arith;
  left = λ class other.
      cond_both (nat_lt (rank_of other) (rank_of class)) other class (λ (c : Class). rank_of c ≤ rank_of class)
      (λ e. (let l = ltb-true (rank_of other) (rank_of class) e in omega arith)) (λ e. omega arith);
  right = λ class other.
      cond_both (nat_lt (rank_of other) (rank_of class)) other class (λ (c : Class). rank_of c ≤ rank_of other)
      (λ e. omega arith) (λ e. ltb-false (rank_of other) (rank_of class) e);
}

most_chooses : Chooses most_of (λ class other. rank_of other ≤ rank_of class)
most_chooses = record {
  either = λ class other. elim (cases_cond (nat_lt (rank_of class) (rank_of other)) other class (most_of class other) refl) as (λ _. (most_of class other ≡ class) ⊎ (most_of class other ≡ other)) [ inl taken ↦ inr taken | inr kept ↦ inl kept ];
  itself = λ class. omega arith;
  through = λ class middle other le le'. omega arith;
  left = λ class other.
      cond_both (nat_lt (rank_of class) (rank_of other)) other class (λ (c : Class). rank_of class ≤ rank_of c)
      (λ e. (let l = ltb-true (rank_of class) (rank_of other) e in omega arith)) (λ e. omega arith);
  right = λ class other.
      cond_both (nat_lt (rank_of class) (rank_of other)) other class (λ (c : Class). rank_of other ≤ rank_of c)
      (λ e. omega arith) (λ e. ltb-false (rank_of class) (rank_of other) e);
}

first_least : (class : Class) → least_of RootKept class ≡ class
first_least Denied = refl
first_least ReadOnly = refl
first_least ReadWrite = refl
first_least RootKept = refl

first_most : (class : Class) → most_of Denied class ≡ class
first_most Denied = refl
first_most ReadOnly = refl
first_most ReadWrite = refl
first_most RootKept = refl

module _ (class_at : ℕ → Class) (first last : ℕ) (le : first ≤ last) (runs : List Kept) (met : AreMet class_at first last runs) where
  abbrev least : Class
  least = (spread_of runs).least

  abbrev most : Class
  most = (spread_of runs).most

  none_less : (address : ℕ) → first ≤ address → address ≤ last → rank_of least ≤ rank_of (class_at address)
  none_less address low high =
      let held = met.tell.complete address low high in
      let value = (met.tell.values held.run held.has).values address held.from held.to in
      let bound = bounds_each least_of (λ class other. rank_of class ≤ rank_of other) least_chooses RootKept runs held.run held.has in
      omega (arith, ap rank_of value, ap rank_of (least_chosen runs (record { least = RootKept; most = Denied })))

  none_more : (address : ℕ) → first ≤ address → address ≤ last → rank_of (class_at address) ≤ rank_of most
  none_more address low high =
      let held = met.tell.complete address low high in
      let value = (met.tell.values held.run held.has).values address held.from held.to in
      let bound = bounds_each most_of (λ class other. rank_of other ≤ rank_of class) most_chooses Denied runs held.run held.has in
      omega (arith, ap rank_of value, ap rank_of (most_chosen runs (record { least = RootKept; most = Denied })))

  -- the class of a run is that of an address
  has_class : (class : Class) → HasOne runs class → HasClass class_at first last class
  has_class class one =
      let own = met.tell.values one.run one.has in
      let proper = own.proper in
      let begins = met.begins one.run one.has in
      let ends = met.ends one.run one.has in
      let address = max (number_of one.run.first) first in
      record {
        address = max (number_of one.run.first) first;
        from = omega arith;
        to = omega arith;
        is = own.values (max (number_of one.run.first) first) (omega arith) (omega arith) ∙ one.is;
      }

pub spread_is : (class_at : ℕ → Class) (first last : ℕ) → first ≤ last → (runs : List Kept) → AreMet class_at first last runs → AreLeastAndMost class_at first last (spread_of runs)
spread_is class_at first last le [] met = absurd (let held = met.tell.complete first (omega arith) le in let lt = held.has.1 in omega arith)
spread_is class_at first last le (run ∷ runs) met = record {
  none_less = none_less class_at first last le (run ∷ runs) met;
  none_more = none_more class_at first last le (run ∷ runs) met;
  some_least = has_class class_at first last le (run ∷ runs) met (spread_of (run ∷ runs)).least
      (subst (HasOne (run ∷ runs)) (sym (least_chosen (run ∷ runs) (record { least = RootKept; most = Denied })))
      (has_one least_of (λ class other. rank_of class ≤ rank_of other) least_chooses RootKept run runs (first_least run.value)));
  some_most = has_class class_at first last le (run ∷ runs) met (spread_of (run ∷ runs)).most
      (subst (HasOne (run ∷ runs)) (sym (most_chosen (run ∷ runs) (record { least = RootKept; most = Denied })))
      (has_one most_of (λ class other. rank_of other ≤ rank_of class) most_chooses Denied run runs (first_most run.value)));
}
