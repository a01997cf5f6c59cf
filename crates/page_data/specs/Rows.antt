-- The rows of the verdicts at a place: one for each verdict, with the ranges of addresses that have it. (this project's own)
use Rattle.std.specs.Prelude.{◌≡◌, ℕ, ◌+◌, ◌<◌, ◌^◌, All, Contains, List, Result, Ok, Err, map}
use Rattle.std.specs.List.{AllPairs}
use Rattle.desk_policy.specs.Verdict.{Grant, verdict_result}
use Rattle.desk_policy.specs.declared.verdict.Denial.{Denial}
use Rattle.desk_policy.specs.declared.verdict.Denial.TheVariants.{NoFileSystem, NoLine, NotListed}
use Rattle.desk_who.specs.Runs.{Run}
use Rattle.desk_who.specs.Who.{range_value}
use Rattle.desk_impact.specs.Impact.{AreThoseThat}
use Rattle.page_data.specs.declared.rows.TableRow.{TableRow}

-- a verdict, and ranges of addresses that have it
pub record RowValue : Type 0 where
  pub verdict : Result Grant Denial
  pub ranges : List (Run (Result Grant Denial))

-- a row by value
abbrev pub row_value : TableRow → RowValue
row_value row = record { verdict = verdict_result row.verdict; ranges = map range_value row.ranges }

-- The place of a verdict in a table: those that grant come first, by their lines; then those that deny, by the lines that they name;
-- and last those that deny and name none.
abbrev pub order_of : Result Grant Denial → ℕ
order_of (Ok grant) = grant.line
order_of (Err (NotListed fs line)) = 2 ^ 32 + line
order_of (Err (NoLine fs)) = 2 ^ 33
order_of (Err NoFileSystem) = 2 ^ 33

-- Verdicts of one place in a table are the same: as it is with those on one path, since lines have different numbers.
abbrev pub ByOrder : List (Run (Result Grant Denial)) → Type 0
ByOrder ranges = (range other : Run (Result Grant Denial)) → Contains ranges range → Contains ranges other → order_of range.value ≡ order_of other.value → range.value ≡ other.value

-- all of the ranges that have the verdict of a row, in their order
abbrev pub IsRowOf : List (Run (Result Grant Denial)) → RowValue → Type 0
IsRowOf ranges row = AreThoseThat (λ range. range.value ≡ row.verdict) ranges row.ranges

-- some row is that of the range's verdict
abbrev pub HasRow : List RowValue → Run (Result Grant Denial) → Type 0
HasRow rows range = Contains (map (λ row. row.verdict) rows) range.value

-- some range has the verdict of a row
abbrev pub IsOfRange : List (Run (Result Grant Denial)) → RowValue → Type 0
IsOfRange ranges row = Contains (map (λ range. range.value) ranges) row.verdict

-- Each verdict of the ranges has one row, with all of the ranges that have it, and no other verdict has one.
pub record AreRowsOf (ranges : List (Run (Result Grant Denial))) (rows : List RowValue) : Type 0 where
  pub each : All (IsRowOf ranges) rows
  pub all : All (HasRow rows) ranges
  pub some : All (IsOfRange ranges) rows
  pub order : AllPairs (λ row later. order_of row.verdict < order_of later.verdict) rows
