-- What the private contracts of lines cite.
use Rattle.std.specs.Prelude.{◌≡◌, ℕ, ◌++◌, All, List, map}
use Rattle.desk_policy.specs.Policy.{Content}
use Rattle.desk_policy.specs.declared.row.Row.{Row}
use Rattle.page_findings.specs.Lines.{IsLineOf, LineValue, placed, placed_in}

-- these lines of a file system were added
pub record AddsLines (content : Content) (fs : ℕ) (rows : List Row) (old new : List LineValue) : Type 0 where
  pub added : List LineValue
  pub are : new ≡ old ++ added
  pub are_rows : map placed added ≡ map (placed_in fs) rows
  pub each : All (IsLineOf content) added
