-- The rows of a table have no more addresses than there are.
use Rattle.std.proofs.Common.{◌≡◌, ◌+◌, ◌≤◌, ◌^◌, ◌∙◌, ℕ, Bool, true, false, cond, List, [], ◌∷◌, ap, arith, map, refl, sym}
use Rattle.std.specs.Prelude.{Some, None, IfSome, Result, filter, not}
use Rattle.std.specs.List.{AllByRecursion, sum_by}
use Rattle.std.proofs.lemmas.List.Elements.{All-from_recursion}
use Rattle.std.proofs.lemmas.List.Sums.{sum_by-cons}
use Rattle.desk_policy.specs.Verdict.{Grant}
use Rattle.desk_policy.specs.declared.verdict.Denial.{Denial}
use Rattle.desk_who.specs.Runs.{Run}
use Rattle.desk_who.specs.Who.{range_value}
use Rattle.desk_impact.specs.Places.{Others}
use Rattle.page_data.specs.Laws.{TablesAddUp}
use Rattle.page_data.specs.Rows as report
use Rattle.page_data.specs.Tables.{addresses_in, denies_row, grants_row, range_size, ranges_at_first, row_size, table_value}
use Rattle.page_data.specs.declared.rows.TableRow.{TableRow}
use Rattle.page_places.specs.Laws.{TablesHaveSizes}
use Rattle.page_places.specs.Rows.{row_value, size_of, span_of, span_size}
use Rattle.page_places.specs.Tables.{HasSize}

-- two steps for each value of a list
pub in_two_steps : {X Y Z : Type 0} (f : Y → Z) (g : X → Y) (xs : List X) → map f (map g xs) ≡ map (λ x. f (g x)) xs
in_two_steps f g [] = refl
in_two_steps f g (x ∷ xs) = ap (λ ys. f (g x) ∷ ys) (in_two_steps f g xs)

-- ranges have as many addresses with their verdicts as without
same_sizes : (ranges : List (Run (Result Grant Denial))) → size_of (map span_of ranges) ≡ addresses_in ranges
same_sizes [] = refl
same_sizes (range ∷ ranges) =
    sum_by-cons span_size (span_of range) (map span_of ranges) ∙ ap (λ n. span_size (span_of range) + n) (same_sizes ranges)
    ∙ sym (sum_by-cons range_size range ranges)

abbrev granted : List TableRow → ℕ
granted rows = sum_by row_size (filter grants_row (map report.row_value rows))

abbrev denied : List TableRow → ℕ
denied rows = sum_by row_size (filter denies_row (map report.row_value rows))

-- one row, and those behind it
first_value : (row : report.RowValue) (rows : List report.RowValue) → sum_by row_size (filter grants_row (row ∷ rows)) + sum_by row_size
    (filter denies_row (row ∷ rows))
    ≡ row_size row + (sum_by row_size (filter grants_row rows) + sum_by row_size (filter denies_row rows))
first_value row rows = by (grants_row row)
  where
    by : (b : Bool) → sum_by row_size (cond b (row ∷ filter grants_row rows) (filter grants_row rows)) + sum_by row_size
        (cond (not b) (row ∷ filter denies_row rows) (filter denies_row rows))
        ≡ row_size row + (sum_by row_size (filter grants_row rows) + sum_by row_size (filter denies_row rows))
    by true = omega (arith, sum_by-cons row_size row (filter grants_row rows))
    by false = omega (arith, sum_by-cons row_size row (filter denies_row rows))

first_row : (row : TableRow) (rows : List TableRow) → granted (row ∷ rows) + denied (row ∷ rows) ≡ row_size (report.row_value row) +
    (granted rows + denied rows)
first_row row rows = first_value (report.row_value row) (map report.row_value rows)

each_sized : (rows : List TableRow) → granted rows + denied rows ≤ 2 ^ 32 → AllByRecursion HasSize (map row_value rows)
each_sized [] all = tt
each_sized (row ∷ rows) all =
    let first = first_row row rows in
    let size = same_sizes (map range_value row.ranges) in
    (omega arith, each_sized rows (omega arith))

sized_if : (joined : Bool) (count : ℕ) → count ≤ 2 ^ 32 → IfSome (cond joined None (Some count)) (λ n. n ≤ 2 ^ 32)
sized_if true count below = tt
sized_if false count below = below

pub tables_have_sizes : TablesAddUp → TablesHaveSizes
tables_have_sizes add_up sections table can is =
    let ranges = ranges_at_first sections in
    let sums = add_up ranges (table_value table) (record { place = Others []; ranges = ranges }) can.runs can.runs refl is in
    let granted = sums.granted in
    let denied = sums.denied in
    let all = sums.all in
    record {
      rows = All-from_recursion HasSize (map row_value table.rows) (each_sized table.rows (omega arith));
      others = sized_if _ table.others (omega arith);
    }
