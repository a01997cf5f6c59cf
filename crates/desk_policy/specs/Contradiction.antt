-- When the lines of a policy contradict each other. (this project's own)
use Rattle.std.specs.Prelude.{◌≡◌, ◌≢◌, ◌⊎◌, ℕ, ◌<◌, ◌==◌, ◌≤◌, ◌^◌, All, Contains, IsSome, List, None, Option, Some, true}
use Rattle.std.specs.List.{AllPairs, list_any}
use Rattle.desk_text.specs.Address.{number_of}
use Rattle.desk_policy.specs.Policy.{Content, rows_of}
use Rattle.desk_policy.specs.Weights.{weight_of}
use Rattle.desk_policy.specs.declared.contradiction.Contradiction.{Contradiction}
use Rattle.desk_policy.specs.declared.row.Row.{Row}

-- two lines match an address with equal weight
abbrev pub MatchAlike : Row → Row → ℕ → Type 0
MatchAlike row other address = IsSome (weight_of row address) × (weight_of other address ≡ weight_of row address)

-- two lines with these numbers match an address with equal weight, and have different terms
pub record Contradicts (rows : List Row) (later earlier address : ℕ) : Type 0 where
  pub row : Row
  pub other : Row
  pub has_row : Contains rows row
  pub has_other : Contains rows other
  pub is_later : row.entry.line ≡ later
  pub is_earlier : other.entry.line ≡ earlier
  pub order : earlier < later
  pub is_address : address < 2 ^ 32
  pub alike : MatchAlike row other address
  pub apart : row.entry.terms ≢ other.entry.terms

-- no two lines of a list contradict each other at any address
abbrev pub AreConsistent : List Row → Type 0
AreConsistent rows = (later earlier address : ℕ) → Contradicts rows later earlier address → ⊥

-- no address is matched by two lines of one file system with equal weight and different terms
abbrev pub HasNoContradiction : Content → Type 0
HasNoContradiction content = (fs : ℕ) → AreConsistent (rows_of content fs)

-- the order of the contradictions of a file system: by the later line, the earlier line, the address
abbrev pub IsNotAfter : ℕ → ℕ → ℕ → ℕ → ℕ → ℕ → Type 0
IsNotAfter later earlier address later' earlier' address' =
    (later < later')
    ⊎ ((later ≡ later') × ((earlier < earlier') ⊎ ((earlier ≡ earlier') × (address ≤ address'))))

-- the least contradiction of a list of lines
pub record IsLeastIn (rows : List Row) (later earlier address : ℕ) : Type 0 where
  pub is : Contradicts rows later earlier address
  pub least : (l e a : ℕ) → Contradicts rows l e a → IsNotAfter later earlier address l e a

-- the least contradiction of a list of lines, or none where there is none
abbrev pub IsFoundIn : List Row → Option Contradiction → Type 0
IsFoundIn rows None = AreConsistent rows
IsFoundIn rows (Some found) = IsLeastIn rows found.line found.other (number_of found.address)

-- a line has other terms than the first of the lines that match an address with its weight
pub record DiffersFromFirst (rows : List Row) (row first : Row) (address : ℕ) : Type 0 where
  pub is_address : address < 2 ^ 32
  pub has_first : Contains rows first
  pub alike : MatchAlike row first address
  pub is_first : (other : Row) → Contains rows other → MatchAlike row other address → first.entry.line ≤ other.entry.line
  pub apart : row.entry.terms ≢ first.entry.terms

-- the least of the first lines than which a line has other terms, and the least address at which it has
pub record IsContradictionOf (rows : List Row) (row : Row) (earlier address : ℕ) : Type 0 where
  pub first : Row
  pub differs : DiffersFromFirst rows row first address
  pub is_earlier : first.entry.line ≡ earlier
  pub least : (other : Row) (a : ℕ) → DiffersFromFirst rows row other a → (earlier < other.entry.line) ⊎ ((earlier ≡ other.entry.line) × (address ≤ a))

-- one of these lines is the later line of a contradiction, which is its least
pub record IsOfLine (rows lines : List Row) (one : Contradiction) : Type 0 where
  pub row : Row
  pub has_row : Contains lines row
  pub is_later : row.entry.line ≡ one.line
  pub is : IsContradictionOf rows row one.other (number_of one.address)

-- the contradictions of these lines among all lines of a file system: each line that has other terms than such a first line,
-- once, in ascending order
pub record AreContradictions (rows lines : List Row) (found : List Contradiction) : Type 0 where
  pub each : All (IsOfLine rows lines) found
  pub all : (row first : Row) (address : ℕ) → Contains lines row → DiffersFromFirst rows row first address → list_any (λ one. one.line == row.entry.line) found ≡ true
  pub ascending : AllPairs (λ one later. one.line < later.line) found
