-- The lines of a file system that match an address with one weight, group by group, the heaviest first. (this project's own)
use Rattle.std.specs.Prelude.{◌≡◌, ℕ, ◌<◌, ◌≤◌, ◌==◌, Bool, false, Contains, List, Option, Some, None, filter, length}
use Rattle.desk_policy.specs.Weights.{weight_of}
use Rattle.desk_policy.specs.declared.row.Row.{Row}
use Rattle.desk_index.specs.Keys.{numbers}
use Rattle.desk_index.specs.declared.lighter.Weighed.{Weighed}

-- a match with this weight
abbrev pub is_weight : ℕ → Option ℕ → Bool
is_weight weight None = false
is_weight weight (Some own) = own == weight

-- the lines that match an address with this weight
abbrev pub weighing : List Row → ℕ → ℕ → List Row
weighing rows address weight = filter (λ row. is_weight weight (weight_of row address)) rows

-- These are all lines that match an address with some weight below this one, and no line that matches it with such a weight has a
-- greater one.
pub record IsHeaviestBelow (rows : List Row) (address below : ℕ) (found : Weighed) : Type 0 where
  pub weight : found.weight < below
  pub lines : found.lines.now ≡ numbers (weighing rows address found.weight)
  pub some : 0 < length found.lines.now
  pub most : (row : Row) (own : ℕ) → Contains rows row → weight_of row address ≡ Some own → own < below → own ≤ found.weight

-- so it is with what was found; if nothing was, no line matches the address with a weight below this one
abbrev pub AreHeaviestBelow : List Row → ℕ → ℕ → Option Weighed → Type 0
AreHeaviestBelow rows address below None = (row : Row) (own : ℕ) → Contains rows row → weight_of row address ≡ Some own → own < below → ⊥
AreHeaviestBelow rows address below (Some found) = IsHeaviestBelow rows address below found
