-- The most that clients may on any file system is the most that they may at all.
use Rattle.std.proofs.Common.{◌≡◌, ◌⊎◌, ℕ, zero, suc, ◌+◌, ◌<◌, ◌≤◌, ◌^◌, ◌∙◌, true, false, cond, List, [], ◌∷◌, Option, None, Some, ap, arith, get_or, inl, inr, length, refl, subst, sym}
use Rattle.std.specs.Prelude.{fold}
use Rattle.std.specs.List.{AllZip}
use Rattle.std.proofs.lemmas.Bool.{cases_lt, eq-eqb, le-ltb, lt-ltb}
use Rattle.std.proofs.lemmas.List.Quantifiers.{position-Some}
use Rattle.desk_tables.specs.FileSystems.{fs_of, is_file_system}
use Rattle.desk_policy.specs.Policy.{Content}
use Rattle.desk_policy.specs.Verdict.{is_in, verdict_in, verdict_of}
use Rattle.page_data.specs.Class.{class_of, most_of, rank_of}
use Rattle.desk_who.specs.Runs.{AreRuns, Run}
use Rattle.page_data.specs.Classes.{AreClassesIn, AreClassesOfSite, IsMostOn}
use Rattle.page_data.specs.Systems.{AreSystems, SystemValue}
use Rattle.page_data.specs.PrivateClasses.{most_among}
use Rattle.page_data.specs.declared.class.Class.{Class}
use Rattle.page_data.specs.declared.class.Class.TheVariants.{Denied}
use Rattle.page_data.proofs.Agreeing.{same_rank}
use Rattle.page_data.proofs.Mostly.{zip_long}

-- the greater of two is one of them, and not less than either
greater : (class other : Class) → (rank_of class ≤ rank_of (most_of class other)) × (rank_of other ≤ rank_of (most_of class other)) × ((most_of class other ≡ class) ⊎ (most_of class other ≡ other))
greater class other =
    elim (cases_lt (rank_of class) (rank_of other)) [
      | inl less ↦
          let is : most_of class other ≡ other = ap (λ b. cond b other class) (lt-ltb (rank_of class) (rank_of other) less) in
          (omega (arith, ap rank_of is), omega (arith, ap rank_of is), inr is)
      | inr le ↦
          let is : most_of class other ≡ class = ap (λ b. cond b other class) (le-ltb (rank_of class) (rank_of other) le) in
          (omega (arith, ap rank_of is), omega (arith, ap rank_of is), inl is)
    ]

module _ (address : ℕ) where
  abbrev step : Class → (ℕ → Class) → Class
  step most class_at = most_of (class_at address) most

  starts_below : (most : Class) (each : List (ℕ → Class)) → rank_of most ≤ rank_of (fold step most each)
  starts_below most [] = omega arith
  starts_below most (class_at ∷ each) = let rest = starts_below (step most class_at) each in let g = greater (class_at address) most in let up = g.1 in omega arith

  each_below : (most : Class) (each : List (ℕ → Class)) (i : ℕ) (d : ℕ → Class) → i < length each → rank_of ((get_or each i d) address) ≤ rank_of (fold step most each)
  each_below most [] i d within = absurd (omega arith)
  each_below most (class_at ∷ each) zero d within =
      let rest = starts_below (step most class_at) each in let g = greater (class_at address) most in let up = g.0 in omega arith
  each_below most (class_at ∷ each) (suc i) d within = each_below (step most class_at) each i d (omega arith)

  -- it is one of them, or what it began with
  is_one : (most : Class) (each : List (ℕ → Class)) (d : ℕ → Class) → (fold step most each ≡ most) ⊎ ((i : ℕ) × (i < length each) × (fold step most each ≡ (get_or each i d) address))
  is_one most [] d = inl refl
  is_one most (class_at ∷ each) d =
      elim (is_one (step most class_at) each d) as (λ _. (fold step (step most class_at) each ≡ most) ⊎ ((i : ℕ) × (i < length (class_at ∷ each)) × (fold step (step most class_at) each ≡ (get_or (class_at ∷ each) i d) address))) [
        | inl first ↦ elim (greater (class_at address) most).2 as (λ _. (fold step (step most class_at) each ≡ most) ⊎ ((i : ℕ) × (i < length (class_at ∷ each)) × (fold step (step most class_at) each ≡ (get_or (class_at ∷ each) i d) address))) [
          | inl own ↦ inr (0, omega arith, first ∙ own)
          | inr old ↦ inl (first ∙ old)
        ]
        | inr later ↦ inr (let lt = later.1 in (suc later.0, omega arith, later.2))
      ]

module _ (content : Content) (address : ℕ) (each : List (ℕ → Class)) (many : length each ≡ length content.table)
    (own : (fs : ℕ) (d : ℕ → Class) → fs < length content.table → IsMostOn content (λ path. is_in (fs_of content.table path) fs) address ((get_or each fs d) address)) where
  nobody : ℕ → Class
  nobody other = Denied

  at_most : (path : List (List ℕ)) (o : Option ℕ) → fs_of content.table path ≡ o → rank_of (class_of (verdict_of content address path)) ≤ rank_of (most_among each address)
  unfolding verdict_of
  at_most path None home = omega (arith, ap (λ o. rank_of (class_of (verdict_in content address path o))) home)
  at_most path (Some fs) home =
      let within : fs < length content.table = (position-Some (is_file_system content.table path) content.table fs (get_or content.table fs (record { path = []; custodians = []; guarded = false; line = 0 })) home).0 in
      let most = own fs nobody within in
      let le = most.none_more path (ap (λ o. is_in o fs) home ∙ eq-eqb fs fs refl) in
      let up = each_below address Denied each fs nobody (omega arith) in
      omega arith

  pub site_most : IsMostOn content (λ path. true) address (most_among each address)
  site_most = by (is_one address Denied each nobody)
    where
      any : rank_of (most_among each address) ≡ 0 → IsMostOn content (λ path. true) address (most_among each address)
      any least = record {
        none_more = λ path here. at_most path (fs_of content.table path) refl;
        path = [];
        here = refl;
        comes_to = same_rank (class_of (verdict_of content address [])) (most_among each address) (let le = at_most [] (fs_of content.table []) refl in omega arith);
      }

      by : (most_among each address ≡ Denied) ⊎ ((i : ℕ) × (i < length each) × (most_among each address ≡ (get_or each i nobody) address)) → IsMostOn content (λ path. true) address (most_among each address)
      by (inl least) = any (ap rank_of least)
      by (inr one) =
          let lt = one.1 in
          let most = own one.0 nobody (omega arith) in
          record {
            none_more = λ path here. at_most path (fs_of content.table path) refl;
            path = most.path;
            here = refl;
            comes_to = most.comes_to ∙ sym one.2;
          }

-- ---- of the file systems of a report
-- for each file system the function that its classes are the runs of
pub record HaveClasses (content : Content) (systems : List SystemValue) (from : ℕ) : Type 0 where
  pub each : List (ℕ → Class)
  pub zip : AllZip (λ class_at (system : SystemValue). AreRuns class_at system.classes) each systems
  pub own : (i : ℕ) (d : ℕ → Class) → i < length systems → (address : ℕ) → address < 2 ^ 32 → IsMostOn content (λ path. is_in (fs_of content.table path) (from + i)) address ((get_or each i d) address)

have_classes : (content : Content) (systems : List SystemValue) (from : ℕ) → ((i : ℕ) (d : SystemValue) → i < length systems → AreClassesIn content (from + i) (get_or systems i d).classes) → HaveClasses content systems from
have_classes content [] from are = record { each = []; zip = tt; own = λ i d within. absurd (omega arith) }
have_classes content (system ∷ systems) from are =
    let first = are 0 system (omega arith) in
    let rest = have_classes content systems (from + 1) (λ i d within. subst (λ fs. AreClassesIn content fs (get_or systems i d).classes) (omega arith) (are (suc i) d (omega arith))) in
    record { each = first.class_at ∷ rest.each; zip = (first.are, rest.zip); own = at first rest }
  where
    at : (first : AreClassesIn content (from + 0) system.classes) (rest : HaveClasses content systems (from + 1)) (i : ℕ) (d : ℕ → Class) → i < length (system ∷ systems) → (address : ℕ) → address < 2 ^ 32
        → IsMostOn content (λ path. is_in (fs_of content.table path) (from + i)) address ((get_or (first.class_at ∷ rest.each) i d) address)
    at first rest zero d within address fits = first.most address fits
    at first rest (suc i) d within address fits =
        subst (λ fs. IsMostOn content (λ path. is_in (fs_of content.table path) fs) address ((get_or rest.each i d) address)) (omega arith) (rest.own i d (omega arith) address fits)

pub classes_of_all : (content : Content) (systems : List SystemValue) (runs : List (Run Class)) → AreSystems content systems
    → ((each : List (ℕ → Class)) → AllZip (λ class_at (system : SystemValue). AreRuns class_at system.classes) each systems → AreRuns (most_among each) runs) → AreClassesOfSite content runs
classes_of_all content systems runs are found =
    let have = have_classes content systems 0 (λ i d within. subst (λ fs. AreClassesIn content fs (get_or systems i d).classes) (omega arith) (are.each i d (let same = are.count in omega arith)).classes) in
    let long = zip_long (λ class_at (system : SystemValue). AreRuns class_at system.classes) have.each systems have.zip in
    record {
      class_at = most_among have.each;
      most = λ address fits. site_most content address have.each (long ∙ are.count)
          (λ fs d within. subst (λ i. IsMostOn content (λ path. is_in (fs_of content.table path) i) address ((get_or have.each fs d) address)) (omega arith) (have.own fs d (let same = are.count in omega arith) address fits));
      are = found have.each have.zip;
    }
