-- The lines that decide in place of one that never does. (this project's own)
use Rattle.std.specs.Prelude.{◌≡◌, ℕ, ◌<◌, ◌^◌, ◌==◌, All, Bool, true, false, Contains, IsSome, List, [], ◌∷◌, Some, filter, find, map, option_map, slice_index_or, unwrap_or}
use Rattle.std.specs.List.{AllPairs}
use Rattle.desk_tables.specs.FileSystems.{fs_of}
use Rattle.desk_policy.specs.Policy.{Content, rows_of}
use Rattle.desk_policy.specs.Verdict.{verdict_of}
use Rattle.desk_policy.specs.Weights.{weight_of}
use Rattle.desk_policy.specs.declared.row.Row.{Row}
use Rattle.desk_idle.specs.Idle.{names_line}
use Rattle.desk_impact.specs.Sections.{PlaceBreaches}
use Rattle.page_data.specs.Sections.{AreSections, is_section_in}
use Rattle.page_data.specs.declared.lines.LineReasons.{LineReasons}
use Rattle.page_data.specs.declared.reasons.Reason.{Reason}
use Rattle.page_data.specs.declared.reasons.Reason.TheVariants as reasons
use Rattle.page_findings.specs.declared.deciding.Deciding.{Deciding as Kept}

-- A line decides for a client of this one: the verdict for an address that this one matches, on some path of the file system, names it.
pub record DecidesFor (content : Content) (fs : ℕ) (row : Row) (line : ℕ) : Type 0 where
  pub address : ℕ
  pub is_address : address < 2 ^ 32
  pub matches : IsSome (weight_of row address)
  pub path : List (List ℕ)
  pub here : fs_of content.table path ≡ Some fs
  pub names : names_line line (verdict_of content address path) ≡ true

-- Just the lines that decide for clients of this one, in order, each once. (not all that are selected there: a line may be selected and
-- decide nothing)
pub record AreDeciding (content : Content) (fs : ℕ) (row : Row) (lines : List ℕ) : Type 0 where
  pub order : AllPairs (λ line later. line < later) lines
  pub all : (line : ℕ) → DecidesFor content fs row line → Contains lines line
  pub only : All (DecidesFor content fs row) lines

-- a line that never decides, and those that decide for its clients
pub record DecidedFor : Type 0 where
  pub line : ℕ
  pub deciding : List ℕ

-- found lines by value, each with the list at its place
abbrev pub deciding_value : Kept → List DecidedFor
deciding_value found = map (λ one. record { line = one.line; deciding = slice_index_or found.lists one.list [] }) found.lines

-- lines in the order of their numbers, each once
abbrev pub AreInLineOrder : List DecidedFor → Type 0
AreInLineOrder found = AllPairs (λ one later. one.line < later.line) found

-- the lines that decide for the clients of a line, by what is found; none if that has nothing of the line
abbrev pub deciding_of : ℕ → List DecidedFor → List ℕ
deciding_of line found = unwrap_or (option_map (λ one. one.deciding) (find (λ one. one.line == line) found)) []

-- a line of the file system, with just the lines that decide for its clients
pub record IsDecidedFor (content : Content) (fs : ℕ) (one : DecidedFor) : Type 0 where
  pub row : Row
  pub has : Contains (rows_of content fs) row
  pub line : row.entry.line ≡ one.line
  pub deciding : AreDeciding content fs row one.deciding

-- it is told of a line that it matches somebody, but decides nothing
abbrev pub is_never : Reason → Bool
is_never reasons.NeverDecides = true
is_never _ = false

-- so it is by the first of these reasons (behind it stands at most what the server does otherwise)
abbrev pub never_decides : List Reason → Bool
never_decides [] = false
never_decides (reason ∷ reasons) = is_never reason

-- The lines of which it is told that they never decide, in their order, each with just the lines that decide for its clients.
pub record AreDecidedFor (content : Content) (fs : ℕ) (reasons : List LineReasons) (found : List DecidedFor) : Type 0 where
  pub lines : map (λ one. one.line) found ≡ map (λ one. one.line) (filter (λ one. never_decides one.reasons) reasons)
  pub order : AreInLineOrder found
  pub each : All (IsDecidedFor content fs) found

-- all verdicts at the places of a file system, of those of the whole site
pub record AreSectionsOf (content : Content) (fs : ℕ) (own : List PlaceBreaches) : Type 0 where
  pub all : List PlaceBreaches
  pub are_all : AreSections content all
  pub are : own ≡ filter (is_section_in content.table fs) all
