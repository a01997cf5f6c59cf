-- The lines of a file system that decide nothing. (this project's own)
use Rattle.std.specs.Prelude.{◌≡◌, ℕ, ◌<◌, ◌≤◌, ◌^◌, ◌==◌, Bool, true, false, All, Contains, IsSome, List, Option, Some, None, Result, Ok, Err, slice_get}
use Rattle.std.specs.List.{AllPairs, list_any}
use Rattle.std.specs.Option.{option_map}
use Rattle.desk_text.specs.Address.{number_of}
use Rattle.desk_tables.specs.FileSystems.{fs_of}
use Rattle.desk_policy.specs.Policy.{Content, rows_of}
use Rattle.desk_policy.specs.Verdict.{Grant, verdict_of}
use Rattle.desk_policy.specs.Weights.{selected, weight_of}
use Rattle.desk_policy.specs.declared.row.Row.{Row}
use Rattle.desk_policy.specs.declared.verdict.Denial.{Denial}
use Rattle.desk_policy.specs.declared.verdict.Denial.TheVariants.{NoFileSystem, NoLine, NotListed}
use Rattle.desk_idle.specs.declared.idle.Idle.{Idle}
use Rattle.desk_idle.specs.declared.idle.Reason.{Reason}
use Rattle.desk_idle.specs.declared.idle.Reason.TheVariants.{NoClient, Shadowed, Repeated}

-- A verdict names a line: the mount is granted by it; or it is denied since this line, the first that is selected, does not list
-- the path, and no other that is selected does.
abbrev pub names_line : ℕ → Result Grant Denial → Bool
names_line line (Ok grant) = grant.line == line
names_line line (Err NoFileSystem) = false
names_line line (Err (NoLine fs)) = false
names_line line (Err (NotListed fs other)) = other == line

-- A line decides: the verdict for some address on some path of the file system names it.
pub record IsNamed (content : Content) (fs line : ℕ) : Type 0 where
  pub address : ℕ
  pub path : List (List ℕ)
  pub is_address : address < 2 ^ 32
  pub here : fs_of content.table path ≡ Some fs
  pub names : names_line line (verdict_of content address path) ≡ true

-- no verdict names the line
abbrev pub DecidesNothing : Content → ℕ → ℕ → Type 0
DecidesNothing content fs line = IsNamed content fs line → ⊥

-- the number of the first line that is selected for an address, if one is
abbrev pub first_selected : List Row → ℕ → Option ℕ
first_selected rows address = option_map (λ row. row.entry.line) (slice_get (selected rows address) 0)

-- a line matches no address
abbrev pub MatchesNobody : Row → Type 0
MatchesNobody row = (address : ℕ) → address < 2 ^ 32 → weight_of row address ≡ None

-- A line is selected at no address. This is the least address that it matches, and there this line is the first that is selected.
pub record IsShadowed (rows : List Row) (row : Row) (first address : ℕ) : Type 0 where
  pub is_address : address < 2 ^ 32
  pub matches : IsSome (weight_of row address)
  pub least : (other : ℕ) → IsSome (weight_of row other) → address ≤ other
  pub nowhere : (other : ℕ) → other < 2 ^ 32 → Contains (selected rows other) row → ⊥
  pub heavier : first_selected rows address ≡ Some first

-- This is the least address at which a line is selected, and there this line is the first that is.
pub record IsRepeated (rows : List Row) (row : Row) (first address : ℕ) : Type 0 where
  pub is_address : address < 2 ^ 32
  pub chosen : Contains (selected rows address) row
  pub least : (other : ℕ) → other < 2 ^ 32 → Contains (selected rows other) row → address ≤ other
  pub earlier : first_selected rows address ≡ Some first

-- Why a line that decides nothing does not: it matches nobody; or where it matches, heavier lines are selected; or it is selected
-- somewhere, but only among earlier lines that list all that it lists, and list it first.
abbrev pub IsReason : List Row → Row → Reason → Type 0
IsReason rows row NoClient = MatchesNobody row
IsReason rows row (Shadowed first address) = IsShadowed rows row first (number_of address)
IsReason rows row (Repeated first address) = IsRepeated rows row first (number_of address)

-- a line of the file system decides nothing, for this reason
pub record IsIdle (content : Content) (fs : ℕ) (lines : List Row) (idle : Idle) : Type 0 where
  pub row : Row
  pub has : Contains lines row
  pub line : row.entry.line ≡ idle.line
  pub nothing : DecidesNothing content fs idle.line
  pub reason : IsReason (rows_of content fs) row idle.reason

-- Just those of these lines that decide nothing, in the order of the lines: each other one decides. So each other one is needed:
-- without it the verdict that names it would be another.
pub record AreIdleAmong (content : Content) (fs : ℕ) (lines : List Row) (found : List Idle) : Type 0 where
  pub each : All (IsIdle content fs lines) found
  pub others : (row : Row) → Contains lines row → list_any (λ idle. idle.line == row.entry.line) found ≡ false → IsNamed content fs row.entry.line
  pub ascending : AllPairs (λ idle later. idle.line < later.line) found

-- just the lines of a file system that decide nothing
abbrev pub AreIdle : Content → ℕ → List Idle → Type 0
AreIdle content fs found = AreIdleAmong content fs (rows_of content fs) found
