-- The rows of a table have together as many addresses as are granted, and as are denied.
use Rattle.std.proofs.Common.{◌≡◌, ◌≢◌, ℕ, suc, ◌+◌, ◌<◌, ◌≤◌, ◌^◌, ◌∙◌, Bool, true, false, cond, List, [], ◌∷◌, ap, arith, inl, inr, map, refl, subst, sym}
use Rattle.std.specs.Prelude.{Contains, Result, filter, not}
use Rattle.std.specs.List.{AllByRecursion, AllPairs, list_any, sum_by}
use Rattle.std.specs.Result.{is_ok}
use Rattle.std.proofs.lemmas.Bool.{and_parts, cases_lt, leb-true, or_cases, true≢false}
use Rattle.std.proofs.lemmas.List.Elements.{All-contains, All-from_recursion, All-map, recursion_from_All}
use Rattle.std.proofs.lemmas.List.Filters.{sum_by-filter_both}
use Rattle.std.proofs.lemmas.List.Sums.{sum_by-cons}
use Rattle.desk_policy.specs.Verdict.{Grant}
use Rattle.desk_policy.specs.declared.verdict.Denial.{Denial}
use Rattle.desk_who.specs.Runs.{AreDiscrete, Ascend, HasValue, Run, holds}
use Rattle.page_data.specs.Groups.{granted_ranges}
use Rattle.page_data.specs.Laws.{TablesAddUp}
use Rattle.page_data.specs.Rows.{AreRowsOf, HasRow, IsRowOf, RowValue, order_of}
use Rattle.page_data.specs.Tables.{IsTableBy, TableValue, addresses_in, denied_ranges, denies_row, grants_row, range_size, row_size, table_by}
use Rattle.page_data.specs.Values.{AreRunsOfSome}
use Rattle.page_data.proofs.Containing.{here_or_there}
use Rattle.page_data.proofs.Keyed.{filter_alike, same_test}
use Rattle.page_data.proofs.Rowed.{Rise, is_same, same_decides}

abbrev Verdict : Type 0
Verdict = Result Grant Denial

-- ---- ranges have all addresses
none_holds : (address : ℕ) (ranges : List (Run Verdict)) → AllByRecursion (λ later. address < later.first) ranges → list_any (holds address) ranges ≡ true → ⊥
none_holds address [] later held = true≢false (sym held)
none_holds address (range ∷ ranges) later held =
    elim (or_cases (holds address range) _ held) [
      | inl here ↦ absurd (let l = leb-true range.first address (and_parts _ _ here).0 in let m = later.0 in omega arith)
      | inr there ↦ none_holds address ranges later.1 there
    ]

whole_from : (verdict_at : ℕ → Verdict) (from : ℕ) (ranges : List (Run Verdict)) → from ≤ 2 ^ 32 → AllByRecursion (HasValue verdict_at) ranges → AllByRecursion (λ range. from ≤ range.first) ranges → Ascend ranges
    → ((address : ℕ) → from ≤ address → address < 2 ^ 32 → list_any (holds address) ranges ≡ true) → from + addresses_in ranges ≡ 2 ^ 32
whole_from verdict_at from [] le values later ascend complete =
    elim (cases_lt from (2 ^ 32)) as (λ _. from + 0 ≡ 2 ^ 32) [
      | inl lt ↦ absurd (true≢false (sym (complete from (omega arith) lt)))
      | inr ge ↦ omega arith
    ]
whole_from verdict_at from (range ∷ ranges) le values later ascend complete =
    let proper = values.0.proper in
    let fits = values.0.addresses in
    let l = later.0 in
    let low : range.first ≤ from = elim (or_cases (holds from range) _ (complete from (omega arith) (omega arith))) as (λ _. range.first ≤ from) [
      | inl here ↦ leb-true range.first from (and_parts _ _ here).0
      | inr there ↦ absurd (none_holds from ranges (above from range.last ranges (omega arith) ascend.0) there)
    ] in
    let rest = whole_from verdict_at (range.last + 1) ranges (omega arith) values.1 (behind range.last ranges ascend.0) ascend.1
    (λ address ge lt. elim (or_cases (holds address range) _ (complete address (omega arith) lt)) as (λ _. list_any (holds address) ranges ≡ true) [
      | inl here ↦ absurd (let h = leb-true address range.last (and_parts _ _ here).1 in omega arith)
      | inr there ↦ there
    ]) in
    omega (arith, sum_by-cons range_size range ranges)
  where
    behind : (last : ℕ) (some : List (Run Verdict)) → AllByRecursion (λ later. last < later.first) some → AllByRecursion (λ later. last + 1 ≤ later.first) some
    behind last [] all = tt
    behind last (one ∷ some) all = (let h = all.0 in omega arith, behind last some all.1)

    above : (address last : ℕ) (some : List (Run Verdict)) → address ≤ last → AllByRecursion (λ later. last < later.first) some → AllByRecursion (λ later. address < later.first) some
    above address last [] le all = tt
    above address last (one ∷ some) le all = (let h = all.0 in omega arith, above address last some le all.1)

whole : (ranges : List (Run Verdict)) → AreRunsOfSome ranges → addresses_in ranges ≡ 2 ^ 32
whole ranges runs =
    let all = whole_from runs.value_at 0 ranges (omega arith) runs.are.values (all_from ranges) runs.are.ascend (λ address ge lt. runs.are.complete address lt) in
    omega arith
  where
    all_from : (some : List (Run Verdict)) → AllByRecursion (λ range. 0 ≤ range.first) some
    all_from [] = tt
    all_from (one ∷ some) = (omega arith, all_from some)

both : (ranges : List (Run Verdict)) → AreRunsOfSome ranges → addresses_in (granted_ranges ranges) + addresses_in (denied_ranges ranges) ≡ 2 ^ 32
both ranges runs = sum_by-filter_both (λ (range : Run Verdict). is_ok range.value) (λ (range : Run Verdict). not (is_ok range.value)) (λ range. refl) range_size ranges ∙ whole ranges runs

-- ---- sums
kept_sum : {X : Type 0} (test : X → Bool) (size : X → ℕ) (xs : List X) → sum_by size (filter test xs) ≡ sum_by (λ x. cond (test x) (size x) 0) xs
kept_sum test size [] = refl
kept_sum test size (x ∷ xs) = by (test x) ∙ ap (λ n. cond (test x) (size x) 0 + n) (kept_sum test size xs) ∙ sym (sum_by-cons (λ y. cond (test y) (size y) 0) x xs)
  where
    by : (b : Bool) → sum_by size (cond b (x ∷ filter test xs) (filter test xs)) ≡ cond b (size x) 0 + sum_by size (filter test xs)
    by true = sum_by-cons size x (filter test xs)
    by false = omega arith

zeros : {X : Type 0} (f : X → ℕ) (xs : List X) → AllByRecursion (λ x. f x ≡ 0) xs → sum_by f xs ≡ 0
zeros f [] none = refl
zeros f (x ∷ xs) none = (let rest = zeros f xs none.1 in let n = none.0 in omega (arith, sum_by-cons f x xs))

abbrev none_if : Bool → ℕ
none_if b = cond b 0 0

nothing : (b : Bool) → none_if b ≡ 0
nothing true = refl
nothing false = refl

module _ (compare : AreDiscrete Verdict) (passes : Verdict → Bool) where
  -- what the ranges of a verdict have together
  abbrev share : Verdict → List (Run Verdict) → ℕ
  share verdict ranges = sum_by (λ range. cond (is_same compare verdict range.value) (range_size range) 0) ranges

  abbrev part : List (Run Verdict) → Verdict → ℕ
  part ranges verdict = cond (passes verdict) (share verdict ranges) 0

  -- of a range, what a verdict has of it
  abbrev hot : Verdict → ℕ → Verdict → ℕ
  hot value size verdict = cond (passes verdict) (cond (is_same compare verdict value) size 0) 0

  apart : (value verdict : Verdict) (size : ℕ) → (value ≢ verdict) → hot value size verdict ≡ 0
  apart value verdict size ne = by (is_same compare verdict value) refl
    where
      by : (b : Bool) → is_same compare verdict value ≡ b → cond (passes verdict) (cond (is_same compare verdict value) size 0) 0 ≡ 0
      by true e = absurd (ne ((same_decides compare verdict value).0 e))
      by false e = ap (λ b. cond (passes verdict) (cond b size 0) 0) e ∙ nothing (passes verdict)

  own : (value : Verdict) (size : ℕ) → hot value size value ≡ cond (passes value) size 0
  own value size = ap (λ b. cond (passes value) (cond b size 0) 0) ((same_decides compare value value).1 refl)

  all_apart : (value : Verdict) (size : ℕ) (verdicts : List Verdict) → AllByRecursion (λ later. order_of value < order_of later) verdicts → AllByRecursion (λ verdict. hot value size verdict ≡ 0) verdicts
  all_apart value size [] later = tt
  all_apart value size (verdict ∷ verdicts) later = (apart value verdict size (λ is. let l = later.0 in omega (arith, ap order_of is)), all_apart value size verdicts later.1)

  -- just one of the verdicts has the range
  one_has : (value : Verdict) (size : ℕ) (verdicts : List Verdict) → Rise verdicts → Contains verdicts value → sum_by (hot value size) verdicts ≡ cond (passes value) size 0
  one_has value size [] rise has = absurd (let lt = has.1 in omega arith)
  one_has value size (verdict ∷ verdicts) rise has =
      sum_by-cons (hot value size) verdict verdicts
      ∙ elim (here_or_there verdict value verdicts has) as (λ _. hot value size verdict + sum_by (hot value size) verdicts ≡ cond (passes value) size 0) [
        | inl is ↦
            let rest = zeros (hot value size) verdicts (all_apart value size verdicts (subst (λ v. AllByRecursion (λ later. order_of v < order_of later) verdicts) is rise.0)) in
            let mine = ap (hot value size) is ∙ own value size in
            omega arith
        | inr later ↦
            let up = All-contains (λ other. order_of verdict < order_of other) verdicts value (All-from_recursion (λ other. order_of verdict < order_of other) verdicts rise.0) later in
            let none = apart value verdict size (λ is. omega (arith, ap order_of is)) in
            let rest = one_has value size verdicts rise.1 later in
            omega arith
      ]

  one_more : (range : Run Verdict) (ranges : List (Run Verdict)) (verdicts : List Verdict) → sum_by (part (range ∷ ranges)) verdicts ≡ sum_by (hot range.value (range_size range)) verdicts + sum_by (part ranges) verdicts
  one_more range ranges [] = refl
  one_more range ranges (verdict ∷ verdicts) =
      let rest = one_more range ranges verdicts in
      let mine = by (passes verdict) in
      omega (arith, sum_by-cons (part (range ∷ ranges)) verdict verdicts, sum_by-cons (hot range.value (range_size range)) verdict verdicts, sum_by-cons (part ranges) verdict verdicts)
    where
      by : (b : Bool) → cond b (share verdict (range ∷ ranges)) 0 ≡ cond b (cond (is_same compare verdict range.value) (range_size range) 0) 0 + cond b (share verdict ranges) 0
      by true = sum_by-cons (λ (one : Run Verdict). cond (is_same compare verdict one.value) (range_size one) 0) range ranges
      by false = refl

  parts_none : (verdicts : List Verdict) → AllByRecursion (λ verdict. part [] verdict ≡ 0) verdicts
  parts_none [] = tt
  parts_none (verdict ∷ verdicts) = (nothing (passes verdict), parts_none verdicts)

  all_parts : (verdicts : List Verdict) → Rise verdicts → (ranges : List (Run Verdict)) → AllByRecursion (λ range. Contains verdicts range.value) ranges
      → sum_by (part ranges) verdicts ≡ addresses_in (filter (λ range. passes range.value) ranges)
  all_parts verdicts rise [] has = zeros (part []) verdicts (parts_none verdicts)
  all_parts verdicts rise (range ∷ ranges) has =
      one_more range ranges verdicts
      ∙ ap (λ n. n + sum_by (part ranges) verdicts) (one_has range.value (range_size range) verdicts rise has.0)
      ∙ ap (λ n. cond (passes range.value) (range_size range) 0 + n) (all_parts verdicts rise ranges has.1 ∙ kept_sum (λ (one : Run Verdict). passes one.value) range_size ranges)
      ∙ sym (sum_by-cons (λ (one : Run Verdict). cond (passes one.value) (range_size one) 0) range ranges)
      ∙ sym (kept_sum (λ (one : Run Verdict). passes one.value) range_size (range ∷ ranges))

  -- ---- rows
  abbrev verdict_in : RowValue → Verdict
  verdict_in row = row.verdict

  rises : (rows : List RowValue) → AllPairs (λ row later. order_of row.verdict < order_of later.verdict) rows → Rise (map verdict_in rows)
  rises [] order = tt
  rises (row ∷ rows) order = (
    recursion_from_All (λ later. order_of row.verdict < order_of later) (map verdict_in rows)
        (All-map (λ later. order_of row.verdict < order_of later) verdict_in rows (λ k d within. order 0 (suc k) d (omega arith) (omega arith))),
    rises rows (λ i j d less within. order (suc i) (suc j) d (omega arith) (omega arith)),
  )

  module _ (ranges : List (Run Verdict)) where
    row_share : (row : RowValue) → IsRowOf ranges row → row_size row ≡ share row.verdict ranges
    row_share row those =
        ap addresses_in (those.are ∙ filter_alike those.test (λ range. is_same compare row.verdict range.value) ranges
        (λ range has. same_test (those.test range) (is_same compare row.verdict range.value) (those.decides range) (same_decides compare row.verdict range.value)))
        ∙ kept_sum (λ (range : Run Verdict). is_same compare row.verdict range.value) range_size ranges

    row_parts : (rows : List RowValue) → AllByRecursion (IsRowOf ranges) rows → sum_by (λ row. cond (passes row.verdict) (row_size row) 0) rows ≡ sum_by (part ranges) (map verdict_in rows)
    row_parts [] each = refl
    row_parts (row ∷ rows) each =
        let mine = ap (λ n. cond (passes row.verdict) n 0) (row_share row each.0) in
        let rest = row_parts rows each.1 in
        omega (arith, sum_by-cons (λ (one : RowValue). cond (passes one.verdict) (row_size one) 0) row rows, sum_by-cons (part ranges) row.verdict (map verdict_in rows))

    pub rows_sum : (rows : List RowValue) → AreRowsOf ranges rows → sum_by row_size (filter (λ row. passes row.verdict) rows) ≡ addresses_in (filter (λ range. passes range.value) ranges)
    rows_sum rows of =
        kept_sum (λ (row : RowValue). passes row.verdict) row_size rows ∙ row_parts rows (recursion_from_All (IsRowOf ranges) rows of.each)
        ∙ all_parts (map verdict_in rows) (rises rows of.order) ranges (recursion_from_All (HasRow rows) ranges of.all)

-- ---- tables
filter_kept : {X : Type 0} (test other : X → Bool) → ((x : X) → test x ≡ true → other x ≡ true) → (xs : List X) → filter other (filter test xs) ≡ filter test xs
filter_kept test other also [] = refl
filter_kept {X} test other also (x ∷ xs) = by (test x) refl (filter_kept test other also xs)
  where
    by : (b : Bool) → test x ≡ b → filter other (filter test xs) ≡ filter test xs → filter other (cond b (x ∷ filter test xs) (filter test xs)) ≡ cond b (x ∷ filter test xs) (filter test xs)
    by true e rest = ap (λ b. cond b (x ∷ filter other (filter test xs)) (filter other (filter test xs))) (also x e) ∙ ap (λ ys. x ∷ ys) rest
    by false e rest = rest

filter_gone : {X : Type 0} (test other : X → Bool) → ((x : X) → test x ≡ true → other x ≡ false) → (xs : List X) → filter other (filter test xs) ≡ []
filter_gone test other not_other [] = refl
filter_gone {X} test other not_other (x ∷ xs) = by (test x) refl (filter_gone test other not_other xs)
  where
    by : (b : Bool) → test x ≡ b → filter other (filter test xs) ≡ [] → filter other (cond b (x ∷ filter test xs) (filter test xs)) ≡ []
    by true e rest = ap (λ b. cond b (x ∷ filter other (filter test xs)) (filter other (filter test xs))) (not_other x e) ∙ rest
    by false e rest = rest

module _ (compare : AreDiscrete Verdict) (first : List (Run Verdict)) (table : TableValue) (is : IsTableBy first table) where
  granting : sum_by row_size (filter grants_row is.rows) ≡ addresses_in (granted_ranges first)
  granting = rows_sum compare is_ok first is.rows is.are

  denying : sum_by row_size (filter denies_row is.rows) ≡ addresses_in (denied_ranges first)
  denying = rows_sum compare (λ verdict. not (is_ok verdict)) first is.rows is.are

  abbrev Sums : TableValue → Type 0
  Sums some =
      (sum_by row_size (filter grants_row some.rows) ≡ addresses_in (granted_ranges first)) × (sum_by row_size (filter denies_row some.rows) + some.others ≡ addresses_in (denied_ranges first))

  kept : filter grants_row (filter grants_row is.rows) ≡ filter grants_row is.rows
  kept = filter_kept grants_row grants_row (λ row passes. passes) is.rows

  gone : filter denies_row (filter grants_row is.rows) ≡ []
  gone = filter_gone grants_row denies_row (λ row passes. ap not passes) is.rows

  sums : Sums table
  sums = subst Sums (sym is.table) (by _)
    where
      by : (b : Bool) → Sums (table_by b first is.rows)
      by true = (ap (sum_by row_size) kept ∙ granting, (let none = ap (sum_by row_size) gone in omega arith))
      by false = (granting, (let d = denying in omega arith))

pub tables_add_up : AreDiscrete Verdict → TablesAddUp
tables_add_up compare ranges table section runs own_runs same is =
    let own = both section.ranges own_runs in
    let s = sums compare ranges table is in
    let granted : sum_by row_size (filter grants_row table.rows) ≡ addresses_in (granted_ranges section.ranges) = s.0 ∙ sym (ap addresses_in same) in
    let first_both = both ranges runs in
    let g = ap addresses_in same in
    let h = s.1 in
    record { granted = granted; denied = omega arith; all = own }
