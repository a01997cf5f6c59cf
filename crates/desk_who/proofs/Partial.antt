-- Functions of addresses that have a value or none, by the ranges at which they have one; and one of them that goes with another.
use Rattle.std.proofs.Common.{◌≡◌, ◌≢◌, ℕ, zero, suc, ◌+◌, ◌<◌, ◌≤◌, ◌^◌, ◌||◌, ◌&&◌, true, false, cond, eqb, List, [], ◌∷◌, ◌++◌, map, sym, ◌∙◌, ap, subst, refl, inl, inr, arith}
use Rattle.std.specs.Prelude.{Option, Some, None, find, nat_le}
use Rattle.std.specs.List.{AllByRecursion, flat_map}
use Rattle.std.specs.Option.{option_map}
use Rattle.std.proofs.lemmas.Bool.{and_parts, cases_Bool, eqb-true, false_from_ne_true, le-leb, leb-true, ltb-true, or_cases, or_parts, true≢false}
use Rattle.std.proofs.lemmas.List.Folds.{list_any-append}
use Rattle.desk_text.specs.AddrSet.{is_among, sorted_set}
use Rattle.desk_text.specs.Laws.{IsSetOf, SortedSetsAreUnique}
use Rattle.desk_who.specs.MostlySame.{GoTogether}
use Rattle.desk_who.specs.PrivateMostlySame.{AreRanges, bounds_of, held_value}
use Rattle.desk_who.specs.PrivateStarts.{has_one_before, kept}
use Rattle.desk_who.specs.Runs.{AreRunsWithValue, AreStartsOf, HasValue, Run, holds, is_asked, run_value, those_with_value}
use Rattle.desk_who.specs.declared.runs.Run.{Run as KeptRun}
use Rattle.desk_who.proofs.Chain.{Chain, chain_of_runs}
use Rattle.desk_who.proofs.Kept.{ascending, told}
use Rattle.desk_who.proofs.Steady.{absent, not_among_all, not_here, not_there, passes, zero_not_kept}

-- ---- where ranges begin and end
-- none of the ranges begins at this address, or ends before it
abbrev NoBound : {A : Type 0} → ℕ → List (Run A) → Type 0
NoBound n runs = AllByRecursion (λ run. (run.first ≢ n) × (run.last + 1 ≢ n)) runs

abbrev run_of : {A : Type 0} → ℕ → ℕ → A → Run A
run_of first last value = record { first = first; last = last; value = value }

module _ {A : Type 0} where
  -- what has a value begins and ends where all do
  bound_with : (n first last : ℕ) (value : Option A) (runs : List (Run (Option A))) → first ≢ n → last + 1 ≢ n → NoBound n (those_with_value runs) → NoBound n (those_with_value (run_of first last value ∷ runs))
  bound_with n first last None runs apart apart' rest = rest
  bound_with n first last (Some value) runs apart apart' rest = ((apart, apart'), rest)

  those_bound : (n : ℕ) (runs : List (Run (Option A))) → NoBound n runs → NoBound n (those_with_value runs)
  those_bound n [] none = tt
  those_bound n (run ∷ runs) none = bound_with n run.first run.last run.value runs none.0.0 none.0.1 (those_bound n runs none.1)

  proper_with : (first last : ℕ) (value : Option A) (runs : List (Run (Option A))) → first ≤ last → AllByRecursion (λ (run : Run A). run.first ≤ run.last) (those_with_value runs)
      → AllByRecursion (λ (run : Run A). run.first ≤ run.last) (those_with_value (run_of first last value ∷ runs))
  proper_with first last None runs here rest = rest
  proper_with first last (Some value) runs here rest = (here, rest)

  those_proper : (value_at : ℕ → Option A) (runs : List (Run (Option A))) → AllByRecursion (HasValue value_at) runs → AllByRecursion (λ (run : Run A). run.first ≤ run.last) (those_with_value runs)
  those_proper value_at [] values = tt
  those_proper value_at (run ∷ runs) values = proper_with run.first run.last run.value runs values.0.proper (those_proper value_at runs values.1)

  -- an address that no range begins at, or ends before, is held as the one before it
  same_held : (address : ℕ) (run : Run A) → run.first ≢ address + 1 → run.last + 1 ≢ address + 1 → holds (address + 1) run ≡ holds address run
  same_held address run apart apart' =
      let low : nat_le run.first (address + 1) ≡ nat_le run.first address =
      elim (cases_Bool (nat_le run.first address)) as (λ _. nat_le run.first (address + 1) ≡ nat_le run.first address) [
        | inl is ↦ (let l = leb-true run.first address is in le-leb run.first (address + 1) (omega arith)) ∙ sym is
        | inr not ↦ false_from_ne_true _ (λ is. let l = leb-true run.first (address + 1) is in true≢false (sym (le-leb run.first address (omega arith)) ∙ not)) ∙ sym not
      ] in
      let high : nat_le (address + 1) run.last ≡ nat_le address run.last =
      elim (cases_Bool (nat_le address run.last)) as (λ _. nat_le (address + 1) run.last ≡ nat_le address run.last) [
        | inl is ↦ (let l = leb-true address run.last is in le-leb (address + 1) run.last (omega arith)) ∙ sym is
        | inr not ↦ false_from_ne_true _ (λ is. let l = leb-true (address + 1) run.last is in true≢false (sym (le-leb address run.last (omega arith)) ∙ not)) ∙ sym not
      ] in
      ap (λ b. b && nat_le (address + 1) run.last) low ∙ ap (λ b. nat_le run.first address && b) high

  steady_held : (address : ℕ) (ranges : List (Run A)) → NoBound (address + 1) ranges → held_value (address + 1) ranges ≡ held_value address ranges
  steady_held address ranges none = ap (option_map (λ (run : Run A). run.value)) (found ranges none)
    where
      found : (some : List (Run A)) → NoBound (address + 1) some → find (holds (address + 1)) some ≡ find (holds address) some
      found [] none = refl
      found (run ∷ some) none =
          ap (λ b. cond b (Some run) (find (holds (address + 1)) some)) (same_held address run none.0.0 none.0.1)
          ∙ ap (λ o. cond (holds address run) (Some run) o) (found some none.1)

-- ---- numbers that are kept
not_kept : (n : ℕ) (xs : List ℕ) → is_among n xs ≡ false → is_among n (kept xs) ≡ false
not_kept n [] none = refl
not_kept n (x ∷ xs) none =
    let rest = not_kept n xs (not_there n x xs none) in
    elim (cases_Bool (has_one_before x)) as (λ _. is_among n (kept (x ∷ xs)) ≡ false) [
      | inl h ↦ ap (λ b. is_among n (cond b (x ∷ kept xs) (kept xs))) h ∙ absent n x (kept xs) (not_here n x xs none) rest
      | inr h ↦ ap (λ b. is_among n (cond b (x ∷ kept xs) (kept xs))) h ∙ rest
    ]

module _ {A : Type 0} where
  zero_no_bound : (ranges : List (Run A)) → is_among 0 (flat_map bounds_of ranges) ≡ false
  zero_no_bound [] = refl
  zero_no_bound (run ∷ ranges) =
      list_any-append (λ other. eqb other 0) (bounds_of run) (flat_map bounds_of ranges)
      ∙ ap (λ b. b || is_among 0 (flat_map bounds_of ranges)) (zero_not_kept (run.first ∷ (run.last + 1) ∷ [])) ∙ zero_no_bound ranges

  no_bound : (n : ℕ) (ranges : List (Run A)) → has_one_before n ≡ true → is_among n (flat_map bounds_of ranges) ≡ false → NoBound n ranges
  no_bound n [] fits none = tt
  no_bound n (run ∷ ranges) fits none =
      let p = or_parts (is_among n (bounds_of run)) (is_among n (flat_map bounds_of ranges)) (sym (list_any-append (λ other. eqb other n) (bounds_of run) (flat_map bounds_of ranges)) ∙ none) in
      let own = not_among_all n (run.first ∷ (run.last + 1) ∷ []) fits p.0 in
      ((not_here n run.first ((run.last + 1) ∷ []) own, not_here n (run.last + 1) [] (not_there n run.first ((run.last + 1) ∷ []) own)), no_bound n ranges fits p.1)

  not_among_bounds : (n : ℕ) (ranges : List (Run A)) → NoBound n ranges → is_among n (flat_map bounds_of ranges) ≡ false
  not_among_bounds n [] none = refl
  not_among_bounds n (run ∷ ranges) none =
      let own = not_kept n (run.first ∷ (run.last + 1) ∷ []) (absent n run.first ((run.last + 1) ∷ []) none.0.0 (absent n (run.last + 1) [] none.0.1 refl)) in
      list_any-append (λ other. eqb other n) (bounds_of run) (flat_map bounds_of ranges) ∙ ap (λ b. b || is_among n (flat_map bounds_of ranges)) own ∙ not_among_bounds n ranges none.1

-- what is kept fits
kept_fit : (n : ℕ) (xs : List ℕ) → is_among n (kept xs) ≡ true → has_one_before n ≡ true
kept_fit n [] there = absurd (true≢false (sym there))
kept_fit n (x ∷ xs) there =
    elim (cases_Bool (has_one_before x)) [
      | inl h ↦
          let both : (eqb x n || is_among n (kept xs)) ≡ true = sym (ap (λ b. is_among n (cond b (x ∷ kept xs) (kept xs))) h) ∙ there in
          elim (or_cases (eqb x n) (is_among n (kept xs)) both) [
            | inl same ↦ ap has_one_before (sym (eqb-true x n same)) ∙ h
            | inr later ↦ kept_fit n xs later
          ]
      | inr h ↦ kept_fit n xs (sym (ap (λ b. is_among n (cond b (x ∷ kept xs) (kept xs))) h) ∙ there)
    ]

bounds_fit : {A : Type 0} (n : ℕ) (ranges : List (Run A)) → is_among n (flat_map bounds_of ranges) ≡ true → has_one_before n ≡ true
bounds_fit n [] there = absurd (true≢false (sym there))
bounds_fit n (run ∷ ranges) there =
    elim (or_cases (is_among n (bounds_of run)) (is_among n (flat_map bounds_of ranges)) (sym (list_any-append (λ other. eqb other n) (bounds_of run) (flat_map bounds_of ranges)) ∙ there)) [
      | inl own ↦ kept_fit n (run.first ∷ (run.last + 1) ∷ []) own
      | inr later ↦ bounds_fit n ranges later
    ]

-- ---- ranges of a function
module _ {A : Type 0} (value_at : ℕ → Option A) where
  -- where the function stays, none begins and none ends
  stays : (address from : ℕ) (runs : List (Run (Option A))) (to : ℕ) → value_at (address + 1) ≡ value_at address → address + 1 < to → Chain value_at from runs to → NoBound (address + 1) runs
  stays address from [] to same less chain = tt
  stays address from (run ∷ runs) to same less chain = (
    (
      λ is. chain.0.cut address (sym is ∙ chain.0.begins) (sym same ∙ ap value_at (sym is ∙ chain.0.begins)),
      ends runs chain.1,
    ),
    stays address (run.last + 1) runs to same less chain.1,
  )
    where
      ends : (later : List (Run (Option A))) → Chain value_at (run.last + 1) later to → run.last + 1 ≢ address + 1
      ends [] chain is = omega (arith, chain)
      ends (next ∷ later) chain is = chain.0.cut address (sym is) (sym same ∙ ap value_at (sym is))

  module _ (ranges : List (Run A)) (are : AreRunsWithValue value_at ranges) where
    pub partial_ranges : AreRanges ranges
    partial_ranges = subst AreRanges (sym are.are) (record { proper = those_proper value_at are.whole are.runs.values; ascend = ascending are.whole are.runs.ascend })

    pub partial_held : (address : ℕ) → address < 2 ^ 32 → held_value address ranges ≡ value_at address
    partial_held address fits = ap (held_value address) are.are ∙ told value_at address are.whole are.runs.values (are.runs.complete address fits)

    no_bound_where_it_stays : (address : ℕ) → address + 1 < 2 ^ 32 → value_at (address + 1) ≡ value_at address → NoBound (address + 1) ranges
    no_bound_where_it_stays address fits same =
        subst (NoBound (address + 1)) (sym are.are) (those_bound (address + 1) are.whole (stays address 0 are.whole (2 ^ 32) same fits (chain_of_runs value_at are.whole are.runs)))

-- ---- a function that goes with another
module _ {A : Type 0} (value_at other_at : ℕ → Option A) (ranges : List (Run A)) (decided set : List ℕ) (sets : SortedSetsAreUnique) (are : AreRunsWithValue other_at ranges)
    (go : GoTogether value_at other_at decided) (is : set ≡ sorted_set (flat_map bounds_of ranges ++ decided)) where
  made : IsSetOf (flat_map bounds_of ranges ++ decided) set
  made = (sets (flat_map bounds_of ranges ++ decided) set).1 is

  among : (n : ℕ) → is_among n set ≡ (is_among n (flat_map bounds_of ranges) || is_among n decided)
  among n = made.each n ∙ list_any-append (λ other. eqb other n) (flat_map bounds_of ranges) decided

  -- at an address that is not decided, what is held of the other function is the value
  given_at : (address : ℕ) → address + 1 < 2 ^ 32 → is_among (address + 1) set ≡ true → is_among (address + 1) decided ≡ false → held_value (address + 1) ranges ≡ value_at (address + 1)
  given_at address fits there away =
      elim (go address fits away) [
        | inl alike ↦ partial_held other_at ranges are (address + 1) fits ∙ sym alike.next
        | inr stay ↦
            let none = not_among_bounds (address + 1) ranges (no_bound_where_it_stays other_at ranges are address fits stay.other) in
            absurd (true≢false (sym there ∙ among (address + 1) ∙ ap (λ b. b || is_among (address + 1) decided) none ∙ away))
      ]

  asked_later : (n : ℕ) (starts : List ℕ) → is_asked starts (suc n) ≡ true → is_among (suc n) starts ≡ true
  asked_later n starts asked =
      elim (or_cases (eqb (suc n) 0) (is_among (suc n) starts) asked) [
        | inl first ↦ absurd (let z = eqb-true (suc n) 0 first in omega arith)
        | inr is ↦ is
      ]

  pub beside_given : (address : ℕ) → is_asked set address ≡ true → is_asked decided address ≡ false → held_value address ranges ≡ value_at address
  beside_given zero asked away = absurd (true≢false away)
  beside_given (suc address) asked away =
      let e : suc address ≡ address + 1 = omega arith in
      let there : is_among (address + 1) set ≡ true = ap (λ n. is_among n set) (sym e) ∙ asked_later address set asked in
      let none : is_among (address + 1) decided ≡ false = ap (λ n. is_among n decided) (sym e) ∙ (or_parts (eqb (suc address) 0) (is_among (suc address) decided) away).1 in
      let bound : is_among (address + 1) (flat_map bounds_of ranges) ≡ true =
      elim (or_cases (is_among (address + 1) (flat_map bounds_of ranges)) (is_among (address + 1) decided) (sym (among (address + 1)) ∙ there)) [
        | inl is ↦ is
        | inr other ↦ absurd (true≢false (sym other ∙ none))
      ] in
      let fits = ltb-true (address + 1) (2 ^ 32) (and_parts _ _ (bounds_fit (address + 1) ranges bound)).1 in
      ap (λ n. held_value n ranges) e ∙ given_at address fits there none ∙ ap value_at (sym e)

  pub beside_starts : is_among 0 decided ≡ false → AreStartsOf value_at set
  beside_starts behind = record {
    ascend = made.ascend;
    behind = among 0 ∙ ap (λ b. b || is_among 0 decided) (zero_no_bound ranges) ∙ behind;
    steady = λ address fits none.
        let p = or_parts (is_among (address + 1) (flat_map bounds_of ranges)) (is_among (address + 1) decided) (sym (among (address + 1)) ∙ none) in
        elim (go address fits p.1) as (λ _. value_at (address + 1) ≡ value_at address) [
          | inl alike ↦
              let bound = no_bound (address + 1) ranges (passes address fits) p.0 in
              alike.next ∙ sym (partial_held other_at ranges are (address + 1) fits) ∙ steady_held address ranges bound
              ∙ partial_held other_at ranges are address (omega arith) ∙ sym alike.here
          | inr stay ↦ stay.own
        ];
  }

-- the first address of all is no start beside others
pub beside_behind : {A : Type 0} (ranges : List (Run A)) (decided set : List ℕ) → SortedSetsAreUnique → set ≡ sorted_set (flat_map bounds_of ranges ++ decided) → is_among 0 decided ≡ false → is_among 0 set ≡ false
beside_behind ranges decided set sets is behind =
    let made : IsSetOf (flat_map bounds_of ranges ++ decided) set = (sets (flat_map bounds_of ranges ++ decided) set).1 is in
    made.each 0 ∙ list_any-append (λ other. eqb other 0) (flat_map bounds_of ranges) decided ∙ ap (λ b. b || is_among 0 decided) (zero_no_bound ranges) ∙ behind

-- bounds of ranges as they are kept
pub bounds_by_value : {T A : Type 0} (meaning : T → A) (others : List (KeptRun T)) → flat_map (λ run. bounds_of (run_value meaning run)) others ≡ flat_map bounds_of (map (run_value meaning) others)
bounds_by_value meaning [] = refl
bounds_by_value meaning (run ∷ others) = ap (λ ns. bounds_of (run_value meaning run) ++ ns) (bounds_by_value meaning others)
