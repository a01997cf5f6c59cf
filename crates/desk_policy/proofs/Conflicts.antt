-- The least address that two lines share, and the least conflict of a line with earlier ones.
use Rattle.std.specs.Prelude.{◌≡◌, ◌≢◌, ℕ, ◌<◌, ◌≤◌, ◌^◌, ◌⊎◌, List, Option, Some, None}
use Rattle.std.specs.List.{Contains}
use Rattle.desk_text.specs.Address.{number_of}
use Rattle.desk_policy.specs.declared.row.Row.{Row}
use Rattle.desk_policy.specs.declared.first_lines.Clash.{Clash}
use Rattle.desk_policy.specs.Contradiction.{MatchAlike}

-- two lines match an address alike and have different terms
pub record Conflict (row other : Row) (address : ℕ) : Type 0 where
  pub is_address : address < 2 ^ 32
  pub alike : MatchAlike row other address
  pub apart : row.entry.terms ≢ other.entry.terms

-- a conflict of a line with one of earlier lines, than which none has an earlier line, nor the same line and a smaller address
pub record LeastConflict (earlier : List Row) (row : Row) (line address : ℕ) : Type 0 where
  pub other : Row
  pub has_other : Contains earlier other
  pub line_is : other.entry.line ≡ line
  pub conflict : Conflict row other address
  pub least : (o : Row) (a : ℕ) → Contains earlier o → Conflict row o a → (line < o.entry.line) ⊎ ((line ≡ o.entry.line) × (address ≤ a))

abbrev pub IsLeastConflict : List Row → Row → Option Clash → Type 0
IsLeastConflict earlier row None = (o : Row) (a : ℕ) → Contains earlier o → Conflict row o a → ⊥
IsLeastConflict earlier row (Some found) = LeastConflict earlier row found.line (number_of found.address)
