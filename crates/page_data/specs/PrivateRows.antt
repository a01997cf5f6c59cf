-- What the private contracts of rows cite.
use Rattle.std.specs.Prelude.{◌≡◌, ◌⊎◌, ◌++◌, List, [], ◌∷◌, Result}
use Rattle.desk_policy.specs.Verdict.{Grant}
use Rattle.desk_policy.specs.declared.verdict.Denial.{Denial}
use Rattle.desk_who.specs.Runs.{Run}
use Rattle.page_data.specs.Rows.{RowValue}

-- a row with one more range
abbrev pub with_range : RowValue → Run (Result Grant Denial) → RowValue
with_range row range = record { verdict = row.verdict; ranges = row.ranges ++ range ∷ [] }

-- a row of one range
abbrev pub row_of : Run (Result Grant Denial) → RowValue
row_of range = record { verdict = range.value; ranges = range ∷ [] }

-- the last of the rows has the verdict of a range
pub record EndsAlike (rows : List RowValue) (range : Run (Result Grant Denial)) : Type 0 where
  pub before : List RowValue
  pub last : RowValue
  pub are : rows ≡ before ++ last ∷ []
  pub same : last.verdict ≡ range.value

-- a range was added to the last of the rows, which has its verdict
pub record AddsToLast (old new : List RowValue) (range : Run (Result Grant Denial)) : Type 0 where
  pub ends : EndsAlike old range
  pub are : new ≡ ends.before ++ with_range ends.last range ∷ []

-- or in a row of its own, since the last one has another verdict
pub record AddsRow (old new : List RowValue) (range : Run (Result Grant Denial)) : Type 0 where
  pub apart : EndsAlike old range → ⊥
  pub are : new ≡ old ++ row_of range ∷ []

abbrev pub AddsRange : List RowValue → List RowValue → Run (Result Grant Denial) → Type 0
AddsRange old new range = AddsToLast old new range ⊎ AddsRow old new range
