-- The table of a group of places: the rows that grant, and those that deny, or how many addresses these have together. (this
-- project's own)
use Rattle.std.specs.Prelude.{◌≡◌, ℕ, ◌+◌, ◌-◌, nat_lt, not, All, Bool, List, [], ◌∷◌, Result, filter, if◌then◌else◌, length, map, sum_by}
use Rattle.std.specs.Result.{is_ok}
use Rattle.desk_policy.specs.Verdict.{Grant}
use Rattle.desk_policy.specs.declared.verdict.Denial.{Denial}
use Rattle.desk_who.specs.Runs.{Run}
use Rattle.desk_impact.specs.Sections.{PlaceBreaches}
use Rattle.page_data.specs.Rows.{AreRowsOf, ByOrder, RowValue, row_value}
use Rattle.page_data.specs.Values.{AreRunsOfSome}
use Rattle.page_data.specs.declared.tables.Table.{Table}

-- so many verdicts that deny have rows of their own
abbrev pub most_denials : ℕ
most_denials = 5

-- a row of a verdict that grants
abbrev pub grants_row : RowValue → Bool
grants_row row = is_ok row.verdict

-- and of one that denies
abbrev pub denies_row : RowValue → Bool
denies_row row = not (grants_row row)

-- how many addresses a range has
abbrev pub range_size : Run (Result Grant Denial) → ℕ
range_size range = range.last + 1 - range.first

-- and ranges that share none
abbrev pub addresses_in : List (Run (Result Grant Denial)) → ℕ
addresses_in ranges = sum_by range_size ranges

-- how many addresses a row has
abbrev pub row_size : RowValue → ℕ
row_size row = addresses_in row.ranges

-- those of the ranges at which a mount is denied
abbrev pub denied_ranges : List (Run (Result Grant Denial)) → List (Run (Result Grant Denial))
denied_ranges ranges = filter (λ range. not (is_ok range.value)) ranges

-- A table: the rows that grant, and then those that deny. If these are joined, how many addresses they have together, "everybody
-- else", and how many they are.
pub record TableValue : Type 0 where
  pub rows : List RowValue
  pub others : ℕ
  pub denials : ℕ

-- a table by value
abbrev pub table_value : Table → TableValue
table_value table = record { rows = map row_value table.rows; others = table.others; denials = table.denials }

-- how many rows deny
abbrev pub denials_among : List RowValue → ℕ
denials_among rows = length (filter denies_row rows)

-- the table of these ranges, which are in these rows: those that deny are joined, or each row stands by itself
abbrev pub table_by : Bool → List (Run (Result Grant Denial)) → List RowValue → TableValue
table_by joined ranges rows = record {
  rows = if joined then filter grants_row rows else rows;
  others = if joined then addresses_in (denied_ranges ranges) else 0;
  denials = if joined then denials_among rows else 0;
}

-- the verdicts at the first of the places
abbrev pub ranges_at_first : List PlaceBreaches → List (Run (Result Grant Denial))
ranges_at_first [] = []
ranges_at_first (first ∷ others) = first.ranges

-- What a table asks of the verdicts at the first place: that they are those of all addresses, and that those of one place in a table
-- are the same.
pub record CanBeTabled (sections : List PlaceBreaches) : Type 0 where
  pub runs : AreRunsOfSome (ranges_at_first sections)
  pub order : ByOrder (ranges_at_first sections)

-- All places have the verdicts of the first.
abbrev pub AreAlikeThroughout : List PlaceBreaches → Type 0
AreAlikeThroughout sections = All (λ section. section.ranges ≡ ranges_at_first sections) sections

-- The table of the verdicts at a place. The rows that deny are joined if they are more than five.
pub record IsTableBy (ranges : List (Run (Result Grant Denial))) (value : TableValue) : Type 0 where
  pub rows : List RowValue
  pub are : AreRowsOf ranges rows
  pub table : value ≡ table_by (nat_lt most_denials (denials_among rows)) ranges rows

-- The table of a group: that of its first place, since all of its places have the same verdicts.
abbrev pub IsTableOf : List PlaceBreaches → TableValue → Type 0
IsTableOf sections value = IsTableBy (ranges_at_first sections) value
