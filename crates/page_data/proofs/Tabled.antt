-- Rows in a table, one by one, and how many addresses are denied.
use Rattle.std.proofs.Common.{◌≡◌, ℕ, zero, suc, ◌+◌, ◌-◌, ◌<◌, ◌≤◌, ◌++◌, ◌∙◌, Bool, true, false, cond, List, [], ◌∷◌, ap, arith, get_or, length, map, refl, sym, take}
use Rattle.std.specs.Prelude.{Result, filter, not}
use Rattle.std.specs.List.{AllByRecursion, sum_by}
use Rattle.std.specs.Result.{is_ok}
use Rattle.std.proofs.lemmas.List.Elements.{filter-append}
use Rattle.std.proofs.lemmas.List.Sums.{sum_by-cons}
use Rattle.desk_policy.specs.Verdict.{Grant}
use Rattle.desk_policy.specs.declared.verdict.Denial.{Denial}
use Rattle.desk_who.specs.Runs.{AreRuns, Ascend, HasValue, Run}
use Rattle.page_data.specs.PrivateTables.{denied_in}
use Rattle.page_data.specs.Rows.{RowValue, row_value}
use Rattle.page_data.specs.declared.rows.TableRow.{TableRow}
use Rattle.page_data.specs.Tables.{TableValue, addresses_in, denials_among, denied_ranges, denies_row, grants_row, range_size, table_by}

abbrev Verdict : Type 0
Verdict = Result Grant Denial

-- ---- one row more
pub one_row : (rows : List RowValue) (row : RowValue) → filter grants_row (rows ++ row ∷ []) ≡ filter grants_row rows ++ cond (grants_row row) (row ∷ []) []
one_row rows row = filter-append grants_row rows (row ∷ [])

-- how many rows deny
pub denials_sum : (rows : List RowValue) → sum_by (λ row. cond (grants_row row) 0 1) rows ≡ denials_among rows
denials_sum [] = refl
denials_sum (row ∷ rows) = sum_by-cons (λ (one : RowValue). cond (grants_row one) 0 1) row rows ∙ ap (λ n. cond (grants_row row) 0 1 + n) (denials_sum rows) ∙ by (grants_row row)
  where
    by : (b : Bool) → cond b 0 1 + denials_among rows ≡ length (cond (not b) (row ∷ filter denies_row rows) (filter denies_row rows))
    by true = omega arith
    by false = omega arith

-- ---- addresses that are denied
pub denied_sum : (ranges : List (Run Verdict)) → sum_by denied_in ranges ≡ addresses_in (denied_ranges ranges)
denied_sum [] = refl
denied_sum (range ∷ ranges) = sum_by-cons denied_in range ranges ∙ ap (λ n. denied_in range + n) (denied_sum ranges) ∙ by (is_ok range.value)
  where
    by : (b : Bool) → cond b 0 (range_size range) + addresses_in (denied_ranges ranges) ≡ addresses_in (cond (not b) (range ∷ denied_ranges ranges) (denied_ranges ranges))
    by true = omega arith
    by false = sym (sum_by-cons range_size range (denied_ranges ranges))

pub small : (range : Run Verdict) → denied_in range ≤ range.last + 1 - range.first
small range = by (is_ok range.value)
  where
    by : (b : Bool) → cond b 0 (range_size range) ≤ range.last + 1 - range.first
    by true = omega arith
    by false = omega arith

begun : (verdict_at : ℕ → Verdict) (from : ℕ) (ranges : List (Run Verdict)) → AllByRecursion (λ range. from ≤ range.first) ranges → AllByRecursion (HasValue verdict_at) ranges → Ascend ranges
    → (i : ℕ) (d : Run Verdict) → i < length ranges → from + sum_by denied_in (take i ranges) ≤ (get_or ranges i d).first
begun verdict_at from [] later values ascend i d within = absurd (omega arith)
begun verdict_at from (range ∷ ranges) later values ascend zero d within = let l = later.0 in omega arith
begun verdict_at from (range ∷ ranges) later values ascend (suc i) d within =
    let rest = begun verdict_at (range.last + 1) ranges (behind ranges ascend.0) values.1 ascend.1 i d (omega arith) in
    let few = small range in
    let l = later.0 in
    let p = values.0.proper in
    omega (arith, sum_by-cons denied_in range (take i ranges))
  where
    behind : (some : List (Run Verdict)) → AllByRecursion (λ later. range.last < later.first) some → AllByRecursion (λ later. range.last + 1 ≤ later.first) some
    behind [] all = tt
    behind (one ∷ some) all = (let h = all.0 in omega arith, behind some all.1)

-- what is counted so far is at most where the next range begins
pub fits_so_far : (verdict_at : ℕ → Verdict) (ranges : List (Run Verdict)) → AreRuns verdict_at ranges → (i : ℕ) (d : Run Verdict) → i < length ranges
    → sum_by denied_in (take i ranges) ≤ (get_or ranges i d).first
fits_so_far verdict_at ranges are i d within = let b = begun verdict_at 0 ranges (all_from ranges) are.values are.ascend i d within in omega arith
  where
    all_from : (some : List (Run Verdict)) → AllByRecursion (λ range. 0 ≤ range.first) some
    all_from [] = tt
    all_from (one ∷ some) = (omega arith, all_from some)

-- a table by its parts
pub made : (joined : Bool) (ranges : List (Run Verdict)) (rows : List RowValue) (table : TableValue) → table.rows ≡ cond joined (filter grants_row rows) rows
    → table.others ≡ cond joined (addresses_in (denied_ranges ranges)) 0 → table.denials ≡ cond joined (denials_among rows) 0 → table ≡ table_by joined ranges rows
made joined ranges rows table rows_are others_are denials_are =
    let by_rows : table ≡ record { rows = cond joined (filter grants_row rows) rows; others = table.others; denials = table.denials } = ap (λ some. record { rows = some; others = table.others; denials = table.denials }) rows_are in
    let by_others : record { rows = cond joined (filter grants_row rows) rows; others = table.others; denials = table.denials } ≡ record { rows = cond joined (filter grants_row rows) rows; others = cond joined (addresses_in (denied_ranges ranges)) 0; denials = table.denials } =
    ap (λ n. record { rows = cond joined (filter grants_row rows) rows; others = n; denials = table.denials }) others_are in
    by_rows ∙ by_others ∙ ap (λ n. record { rows = cond joined (filter grants_row rows) rows; others = cond joined (addresses_in (denied_ranges ranges)) 0; denials = n }) denials_are

-- ---- rows that deny, counted
pub one_or_none : (b : Bool) → cond b 0 1 ≤ 1
one_or_none true = omega arith
one_or_none false = omega arith

abbrev denial : RowValue → ℕ
denial row = cond (grants_row row) 0 1

abbrev kept_denial : TableRow → ℕ
kept_denial row = denial (row_value row)

pub denials_few : (rows : List TableRow) → sum_by kept_denial rows ≤ length rows
denials_few [] = omega arith
denials_few (row ∷ rows) = (let rest = denials_few rows in let one = one_or_none (grants_row (row_value row)) in omega (arith, sum_by-cons kept_denial row rows))

pub sum_value : (rows : List TableRow) → sum_by kept_denial rows ≡ sum_by denial (map row_value rows)
sum_value [] = refl
sum_value (row ∷ rows) = sum_by-cons kept_denial row rows ∙ ap (λ n. kept_denial row + n) (sum_value rows) ∙ sym (sum_by-cons denial (row_value row) (map row_value rows))
