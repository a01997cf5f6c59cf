-- The seams of a function of addresses are where its runs begin, but for the first one.
use Rattle.std.proofs.Common.{◌≡◌, ℕ, ◌+◌, ◌-◌, ◌<◌, ◌≤◌, ◌^◌, ◌∙◌, true, List, [], ◌∷◌, ap, arith, inl, inr, map, refl, subst, sym}
use Rattle.std.specs.Prelude.{Contains, nat_le}
use Rattle.std.specs.List.{AllByRecursion, list_any}
use Rattle.std.proofs.lemmas.Bool.{and_parts, cases_lt, leb-true, or_cases, true≢false}
use Rattle.desk_text.specs.Address.{number_of}
use Rattle.desk_text.specs.Network.{Block}
use Rattle.desk_who.specs.Runs.{AreApart, AreRuns, Ascend, HasValue, Run, holds}
use Rattle.page_data.specs.Classes.{class_run}
use Rattle.page_data.specs.declared.class.Class.{Class}
use Rattle.page_maps.specs.Maps.{AreMaps, IsNeeded, IsSeam, map_at}
use Rattle.page_maps.specs.Order.{AreOrdered}
use Rattle.page_data.proofs.Containing.{here_or_there}
use Rattle.page_maps.proofs.Mapped.{contains_map, from_map}
use Rattle.page_maps.proofs.Telling.{Kept, tells}

-- an address that comes before runs is held by none
none_holds : (address least : ℕ) (runs : List (Run Class)) → address ≤ least → AllByRecursion (λ later. least < later.first) runs → list_any (holds address) runs ≡ true → ⊥
none_holds address least [] le later held = true≢false (sym held)
none_holds address least (run ∷ runs) le later held =
    elim (or_cases (holds address run) (list_any (holds address) runs) held) [
      | inl here ↦ (let low = leb-true run.first address (and_parts _ _ here).0 in let l = later.0 in absurd (omega arith))
      | inr there ↦ none_holds address least runs le later.1 there
    ]

-- what the first of runs does not hold, the others do
others_hold : (address : ℕ) (run : Run Class) (runs : List (Run Class)) → run.last < address → list_any (holds address) (run ∷ runs) ≡ true → list_any (holds address) runs ≡ true
others_hold address run runs less held =
    elim (or_cases (holds address run) (list_any (holds address) runs) held) as (λ _. list_any (holds address) runs ≡ true) [
      | inl here ↦ absurd (let l = leb-true address run.last (and_parts (nat_le run.first address) (nat_le address run.last) here).1 in omega arith)
      | inr there ↦ there
    ]

-- each address from one on is held
abbrev HoldFrom : ℕ → List (Run Class) → Type 0
HoldFrom from runs = (address : ℕ) → from ≤ address → address < 2 ^ 32 → list_any (holds address) runs ≡ true

module _ (class_at : ℕ → Class) where
  -- the next run begins right behind a run
  next_begins : (run next : Run Class) (runs : List (Run Class)) → HasValue class_at run → HasValue class_at next → run.last < next.first → AllByRecursion (λ later. next.last < later.first) runs
      → HoldFrom run.first (run ∷ next ∷ runs) → next.first ≡ run.last + 1
  next_begins run next runs own its less later hold =
      let proper = own.proper in
      let proper' = its.proper in
      let fits = its.addresses in
      let rest : list_any (holds (run.last + 1)) (next ∷ runs) ≡ true = others_hold (run.last + 1) run (next ∷ runs) (omega arith) (hold (run.last + 1) (omega arith) (omega arith)) in
      elim (or_cases (holds (run.last + 1) next) (list_any (holds (run.last + 1)) runs) rest) as (λ _. next.first ≡ run.last + 1) [
        | inl here ↦ (let low = leb-true next.first (run.last + 1) (and_parts _ _ here).0 in omega arith)
        | inr there ↦ absurd (none_holds (run.last + 1) next.last runs (omega arith) later there)
      ]

  begins_seam : (run : Run Class) (runs : List (Run Class)) → AllByRecursion (HasValue class_at) (run ∷ runs) → Ascend (run ∷ runs) → AreApart (run ∷ runs) → HoldFrom run.first (run ∷ runs)
      → (other : Run Class) → Contains runs other → IsSeam class_at other.first
  begins_seam run [] values ascend apart hold other has = absurd (let lt = has.1 in omega arith)
  begins_seam run (next ∷ runs) values ascend apart hold other has =
      let own = values.0 in
      let its = values.1.0 in
      let proper = own.proper in
      let proper' = its.proper in
      let fits = its.addresses in
      let less = ascend.0.0 in
      let begins : next.first ≡ run.last + 1 = next_begins run next runs own its less ascend.1.0 hold in
      let before : next.first - 1 ≡ run.last = omega arith in
      elim (here_or_there next other runs has) as (λ _. IsSeam class_at other.first) [
        | inl is ↦
            subst (λ (o : Run Class). IsSeam class_at o.first) is (record {
              behind = omega arith;
              address = omega arith;
              changes = λ same. apart.0 (sym (own.values run.last proper (omega arith)) ∙ sym (ap class_at before) ∙ sym same ∙ its.values next.first (omega arith) proper');
            })
        | inr later ↦
            begins_seam next runs values.1 ascend.1 apart.1
            (λ address from fits'. others_hold address run (next ∷ runs) (omega arith) (hold address (omega arith) fits')) other later
      ]

  -- the first of the runs begins at the first address
  first_begins : (run : Run Class) (runs : List (Run Class)) → AreRuns class_at (run ∷ runs) → run.first ≡ 0
  first_begins run runs are =
      elim (or_cases (holds 0 run) (list_any (holds 0) runs) (are.complete 0 (omega arith))) as (λ _. run.first ≡ 0) [
        | inl here ↦ (let low = leb-true run.first 0 (and_parts _ _ here).0 in omega arith)
        | inr there ↦ absurd (none_holds 0 run.last runs (omega arith) are.ascend.0 there)
      ]

  -- a run begins at each seam
  pub record BeginsAt (runs : List Kept) (seam : ℕ) : Type 0 where
    pub run : Kept
    pub has : Contains runs run
    pub is : number_of run.first ≡ seam

  seam_begins : (runs : List Kept) → AreRuns class_at (map class_run runs) → (seam : ℕ) → IsSeam class_at seam → BeginsAt runs seam
  seam_begins runs are seam is =
      let some = is.behind in
      let fits = is.address in
      let one = (tells class_at runs are 0 seam fits).complete seam (omega arith) (omega arith) in
      let own = (tells class_at runs are 0 seam fits).values one.run one.has in
      let from = one.from in
      let to = one.to in
      record {
        run = one.run;
        has = one.has;
        is = elim (cases_lt (number_of one.run.first) seam) as (λ _. number_of one.run.first ≡ seam) [
          | inl less ↦ absurd (is.changes (own.values seam from to ∙ sym (own.values (seam - 1) (omega arith) (omega arith))))
          | inr le ↦ omega arith
        ];
      }

  zero_begins : (runs : List Kept) → AreRuns class_at (map class_run runs) → BeginsAt runs 0
  zero_begins runs are =
      let one = (tells class_at runs are 0 0 (omega arith)).complete 0 (omega arith) (omega arith) in
      let from = one.from in
      record { run = one.run; has = one.has; is = omega arith }

  needed : (runs : List Kept) → AreRuns class_at (map class_run runs) → (run : Kept) → Contains runs run → IsNeeded class_at (map_at (number_of run.first))
  needed [] are run has = absurd (let lt = has.1 in omega arith)
  needed (first ∷ runs) are run has =
      elim (here_or_there first run runs has) as (λ _. IsNeeded class_at (map_at (number_of run.first))) [
        | inl is ↦ inl (ap (λ (r : Kept). map_at (number_of r.first)) (sym is) ∙ ap map_at (first_begins (class_run first) (map class_run runs) are))
        | inr later ↦ inr (record {
          seam = number_of run.first;
          is = begins_seam (class_run first) (map class_run runs) are.values are.ascend are.apart (λ address from fits. are.complete address fits) (class_run run) (contains_map class_run runs run later);
          map = refl;
        })
      ]

  abbrev map_of_run : Kept → Block
  map_of_run run = map_at (number_of run.first)

  pub are_maps : (runs : List Kept) → AreRuns class_at (map class_run runs) → (maps : List Block) → AreOrdered (map (λ (run : Kept). map_at (number_of run.first)) runs) maps → AreMaps class_at maps
  are_maps runs are maps ordered = record {
    order = ordered.order;
    all = λ network need. elim need as (λ _. Contains maps network) [
      | inl is ↦
          let one = zero_begins runs are in
          (ordered.same network).1 (subst (Contains (map map_of_run runs)) (ap map_at one.is ∙ sym is) (contains_map map_of_run runs one.run one.has))
      | inr of ↦
          let one = seam_begins runs are of.seam of.is in
          (ordered.same network).1 (subst (Contains (map map_of_run runs)) (ap map_at one.is ∙ of.map) (contains_map map_of_run runs one.run one.has))
    ];
    only = λ network has.
        let one = from_map map_of_run runs network ((ordered.same network).0 has) in
        subst (IsNeeded class_at) one.is (needed runs are one.x one.has);
  }
