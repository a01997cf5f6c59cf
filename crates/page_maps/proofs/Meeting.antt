-- Those of runs that have an address of a range: they stand between the places that two binary searches find.
use Rattle.std.proofs.Common.{◌≡◌, ℕ, ◌+◌, ◌-◌, ◌<◌, ◌≤◌, ◌∙◌, Bool, true, false, List, ap, arith, drop, get_or, inl, inr, length, sym, take}
use Rattle.std.specs.Prelude.{Contains, nat_le, nat_lt}
use Rattle.std.specs.List.Sorted.{IsNonDecreasingBy, IsPartitionPoint, IsPartitionedBy}
use Rattle.std.proofs.lemmas.Bool.{cases_lt, le-leb, leb-false, leb-true, lt-ltb, ltb-false, ltb-true}
use Rattle.std.proofs.lemmas.List.{get_or-drop, get_or-take, length-drop, length-take}
use Rattle.desk_text.specs.Address.{number_of}
use Rattle.page_data.specs.declared.class.Class.{Class}
use Rattle.page_maps.specs.PrivateCells.{AreMet, TellClasses}
use Rattle.page_maps.proofs.Telling.{Kept}

abbrev pub ends_before : ℕ → Kept → Bool
ends_before first run = nat_lt (number_of run.last) first

abbrev pub begins_within : ℕ → Kept → Bool
begins_within last run = nat_le (number_of run.first) last

pub ends_parted : (runs : List Kept) (first : ℕ) → IsNonDecreasingBy (λ (run : Kept). number_of run.last) runs → IsPartitionedBy (ends_before first) runs
ends_parted runs first rises i j d le within passes =
    let up = rises i j d le within in
    let l = ltb-true (number_of (get_or runs j d).last) first passes in
    lt-ltb (number_of (get_or runs i d).last) first (omega arith)

pub begins_parted : (runs : List Kept) (at last : ℕ) → IsNonDecreasingBy (λ (run : Kept). number_of run.first) runs → IsPartitionedBy (begins_within last) (drop at runs)
begins_parted runs at last rises i j d le within passes =
    let few = length-drop at runs in
    let up = rises (at + i) (at + j) d (omega arith) (omega arith) in
    let l = leb-true (number_of (get_or (drop at runs) j d).first) last passes in
    let low = ap (λ (run : Kept). number_of run.first) (get_or-drop at runs i d) in
    let high = ap (λ (run : Kept). number_of run.first) (get_or-drop at runs j d) in
    le-leb (number_of (get_or (drop at runs) i d).first) last (omega arith)

abbrev pub EndsAt : ℕ → List Kept → ℕ → Type 0
EndsAt first runs at = IsPartitionPoint (λ run. ends_before first run ≡ true) (λ run. ends_before first run ≡ false) runs at

abbrev pub BeginsAt : ℕ → List Kept → ℕ → Type 0
BeginsAt last runs count = IsPartitionPoint (λ run. begins_within last run ≡ true) (λ run. begins_within last run ≡ false) runs count

module _ (runs : List Kept) (first last at count : ℕ) (ends : EndsAt first runs at) (begins : BeginsAt last (drop at runs) count) where
  abbrev found : List Kept
  found = take count (drop at runs)

  -- the place of one that is found
  place : (k : ℕ) (d : Kept) → k < length found → (k < count) × (at + k < length runs) × (get_or found k d ≡ get_or runs (at + k) d)
  place k d within =
      let few = length-take count (drop at runs) in
      let rest = length-drop at runs in
      let less : k < count = omega arith in
      (less, omega arith, get_or-take count (drop at runs) k d less ∙ get_or-drop at runs k d)

  rises_there : (n : Kept → ℕ) → IsNonDecreasingBy n runs → IsNonDecreasingBy n found
  rises_there n rises i j d le within =
      let high = place j d within in
      let low = place i d (omega arith) in
      let up = rises (at + i) (at + j) d (omega arith) high.1 in
      omega (arith, ap n high.2, ap n low.2)

  in_runs : (run : Kept) → Contains found run → Contains runs run
  in_runs run has = (let p = place has.0 run has.1 in (at + has.0, p.1, sym p.2 ∙ has.2))

  not_before : (run : Kept) → (has : Contains runs run) → first ≤ number_of run.last → at ≤ has.0
  not_before run has low =
      elim (cases_lt has.0 at) as (λ _. at ≤ has.0) [
        | inl less ↦ absurd (let l = ltb-true (number_of (get_or runs has.0 run).last) first (ends.0 has.0 run (omega arith) less) in omega (arith, ap (λ (r : Kept). number_of r.last) has.2))
        | inr le ↦ le
      ]

  in_found : (run : Kept) → Contains runs run → first ≤ number_of run.last → number_of run.first ≤ last → Contains found run
  in_found run has low high =
      let within = has.1 in
      let from : at ≤ has.0 = not_before run has low in
      let few = length-drop at runs in
      let place : at + (has.0 - at) ≡ has.0 = omega arith in
      let same : get_or (drop at runs) (has.0 - at) run ≡ run = get_or-drop at runs (has.0 - at) run ∙ ap (λ n. get_or runs n run) place ∙ has.2 in
      let to : has.0 - at < count = elim (cases_lt (has.0 - at) count) as (λ _. has.0 - at < count) [
        | inl less ↦ less
        | inr le ↦ absurd (let l = leb-false (number_of (get_or (drop at runs) (has.0 - at) run).first) last (begins.1 (has.0 - at) run le (omega arith)) in omega (arith, ap (λ (r : Kept). number_of r.first) same))
      ] in
      (has.0 - at, omega (arith, length-take count (drop at runs)), get_or-take count (drop at runs) (has.0 - at) run to ∙ same)

  begins_there : (run : Kept) → Contains found run → number_of run.first ≤ last
  begins_there run has =
      let p = place has.0 run has.1 in
      let same : get_or (drop at runs) has.0 run ≡ run = sym (get_or-take count (drop at runs) has.0 run p.0) ∙ has.2 in
      let l = leb-true (number_of (get_or (drop at runs) has.0 run).first) last (begins.0 has.0 run (omega arith) p.0) in
      omega (arith, ap (λ (r : Kept). number_of r.first) same)

  ends_there : (run : Kept) → Contains found run → first ≤ number_of run.last
  ends_there run has =
      let p = place has.0 run has.1 in
      let same : get_or runs (at + has.0) run ≡ run = sym p.2 ∙ has.2 in
      let l = ltb-false (number_of (get_or runs (at + has.0) run).last) first (ends.1 (at + has.0) run (omega arith) p.1) in
      omega (arith, ap (λ (r : Kept). number_of r.last) same)

  pub met : (class_at : ℕ → Class) → TellClasses class_at first last runs → AreMet class_at first last found
  met class_at tell = record {
    tell = record {
      firsts = rises_there (λ (run : Kept). number_of run.first) tell.firsts;
      lasts = rises_there (λ (run : Kept). number_of run.last) tell.lasts;
      values = λ run has. tell.values run (in_runs run has);
      complete = λ address low high.
          let one = tell.complete address low high in
          let from = one.from in
          let to = one.to in
          record { run = one.run; has = in_found one.run one.has (omega arith) (omega arith); from = one.from; to = one.to };
    };
    begins = begins_there;
    ends = ends_there;
  }
