-- The lines where the server grants more than this desk. (this project's own)
use Rattle.std.specs.Prelude.{◌≡◌, ◌⊎◌, ℕ, ◌<◌, ◌≤◌, ◌^◌, ◌==◌, All, true, Contains, List, Option, Some, Ok, Err, find, not}
use Rattle.std.specs.List.{AllPairs, list_any}
use Rattle.std.specs.Option.{option_copied}
use Rattle.desk_text.specs.Address.{number_of}
use Rattle.desk_tables.specs.FileSystems.{fs_of}
use Rattle.desk_policy.specs.Listings.{written}
use Rattle.desk_policy.specs.Policy.{Content, rows_of}
use Rattle.desk_policy.specs.Verdict.{Grant, is_directory_among, verdict_of}
use Rattle.desk_policy.specs.Weights.{selected, weight_of}
use Rattle.desk_policy.specs.declared.row.Row.{Row}
use Rattle.desk_policy.specs.declared.verdict.Denial.{Denial}
use Rattle.desk_idle.specs.Idle.{first_selected}
use Rattle.desk_idle.specs.Laws.{brings}
use Rattle.desk_server.specs.Server.{server_verdict_of}
use Rattle.desk_server.specs.declared.wider_grant.WiderGrant.{WiderGrant}

-- At an address a line is the first that is selected, and the server grants some path of the file system that is denied here.
pub record IsWiderAt (content : Content) (fs line address : ℕ) : Type 0 where
  pub is_address : address < 2 ^ 32
  pub first : first_selected (rows_of content fs) address ≡ Some line
  pub path : List (List ℕ)
  pub here : fs_of content.table path ≡ Some fs
  pub denial : Denial
  pub denied : verdict_of content address path ≡ Err denial
  pub grant : Grant
  pub granted : server_verdict_of content address path ≡ Ok grant

-- A line names the client of an address, with this weight, and lists something that no selected line does.
pub record Widens (rows : List Row) (address : ℕ) (row : Row) (weight : ℕ) : Type 0 where
  pub has : Contains rows row
  pub matches : weight_of row address ≡ Some weight
  pub names : 0 < weight
  pub brought : brings (selected rows address) row ≡ true

-- It is the first of the heaviest such lines.
pub record WidensFirst (rows : List Row) (address : ℕ) (row : Row) : Type 0 where
  pub weight : ℕ
  pub widens : Widens rows address row weight
  pub least : (other : Row) (own : ℕ) → Widens rows address other own → (own < weight) ⊎ ((own ≡ weight) × (row.entry.line ≤ other.entry.line))

-- the first directory of a line that none of these lines writes
abbrev pub first_unwritten : List Row → Row → Option (List (List ℕ))
first_unwritten chosen row = find (λ dir. not (is_directory_among dir (written chosen))) row.entry.dirs

-- At the least address at which the server grants more, where this line is the first that is selected, the other line is the first
-- that lists more, and the directory is the first of what it writes more, if it does not list more by -alldirs alone.
pub record IsWiderGrant (content : Content) (fs : ℕ) (found : WiderGrant) : Type 0 where
  pub at : IsWiderAt content fs found.line (number_of found.address)
  pub least : (address : ℕ) → IsWiderAt content fs found.line address → number_of found.address ≤ address
  pub row : Row
  pub by : WidensFirst (rows_of content fs) (number_of found.address) row
  pub other : row.entry.line ≡ found.other
  pub directory : option_copied found.directory ≡ first_unwritten (selected (rows_of content fs) (number_of found.address)) row

-- Just the lines of a file system that are the first selected at an address at which the server grants more, in their order.
pub record AreWiderGrants (content : Content) (fs : ℕ) (found : List WiderGrant) : Type 0 where
  pub each : All (IsWiderGrant content fs) found
  pub all : (line address : ℕ) → IsWiderAt content fs line address → list_any (λ one. one.line == line) found ≡ true
  pub ascending : AllPairs (λ one later. one.line < later.line) found
