-- What lines that decide nothing do, and which lines decide. (this project's own)
use Rattle.std.specs.Prelude.{◌≡◌, ◌↔◌, ℕ, ◌<◌, ◌^◌, ◌&&◌, ◌||◌, ◌++◌, ◌∷◌, not, All, Bool, true, Contains, List, Ok, Some, filter}
use Rattle.std.specs.List.{list_any}
use Rattle.desk_tables.specs.FileSystems.{fs_of}
use Rattle.desk_tables.specs.declared.filesystems.Mount.{Mount}
use Rattle.desk_exports.specs.Laws.{HasDirectory}
use Rattle.desk_exports.specs.declared.profile.Profile.{Profile}
use Rattle.desk_policy.specs.Listings.{written}
use Rattle.desk_policy.specs.Parsing.{read_site, read_whole_with}
use Rattle.desk_policy.specs.Policy.{AreAscending, Content, rows_of, with_rows}
use Rattle.desk_policy.specs.Site.{SiteTexts}
use Rattle.desk_policy.specs.Verdict.{is_directory_among, lists, verdict_of}
use Rattle.desk_policy.specs.Weights.{selected}
use Rattle.desk_policy.specs.declared.parsing.SiteTables.{SiteTables}
use Rattle.desk_policy.specs.declared.row.Row.{Row}
use Rattle.desk_idle.specs.Idle.{DecidesNothing, IsNamed}

-- a line writes directories of this file system alone, at least one
pub record WritesDirectories (table : List Mount) (fs : ℕ) (row : Row) : Type 0 where
  pub own : All (λ dir. fs_of table dir ≡ Some fs) row.entry.dirs
  pub some : HasDirectory row.entry

-- so do all lines of a file system
abbrev pub WriteDirectories : Content → ℕ → Type 0
WriteDirectories content fs = All (WritesDirectories content.table fs) (rows_of content fs)

-- So it is in the policy that a site's texts write.
abbrev pub SiteLinesWriteDirectories : Type 0
SiteLinesWriteDirectories = (texts : SiteTexts) (content : Content) → read_site texts ≡ Ok content → (fs : ℕ) → WriteDirectories content fs

-- So it is in the policy that a whole exports text writes, whatever tables are lent to it.
abbrev pub WholeLinesWriteDirectories : Type 0
WholeLinesWriteDirectories =
    (profile : Profile) (site_tables : SiteTables) (table : List Mount) (text : List ℕ) (content : Content) → read_whole_with profile site_tables table text ≡ Ok content
    → (fs : ℕ) → WriteDirectories content fs

-- the policy with some lines of a file system made comments
abbrev pub without : Content → ℕ → (ℕ → Bool) → Content
without content fs leaves = with_rows content fs (filter (λ row. not (leaves row.entry.line)) (rows_of content fs))

-- With any lines made comments that decide nothing, one or more or all of them, every verdict stays, with its line and its terms.
abbrev pub IdleLinesChangeNothing : Type 0
IdleLinesChangeNothing =
    (content : Content) (fs : ℕ) (leaves : ℕ → Bool) → WriteDirectories content fs
    → ((row : Row) → Contains (rows_of content fs) row → leaves row.entry.line ≡ true → DecidesNothing content fs row.entry.line)
    → (address : ℕ) (path : List (List ℕ)) → address < 2 ^ 32 → verdict_of (without content fs leaves) address path ≡ verdict_of content address path

-- A line brings something to those before it: none of them has -alldirs, and it has -alldirs itself, or a directory that none of
-- them writes.
abbrev pub brings : List Row → Row → Bool
brings earlier row =
    not (list_any (λ other. other.entry.alldirs) earlier)
    && (row.entry.alldirs || list_any (λ dir. not (is_directory_among dir (written earlier))) row.entry.dirs)

-- the line brings something to those that are selected before it, at some address at which it is selected
pub record BringsSomewhere (rows : List Row) (row : Row) : Type 0 where
  pub address : ℕ
  pub is_address : address < 2 ^ 32
  pub earlier : List Row
  pub later : List Row
  pub selects : selected rows address ≡ earlier ++ row ∷ later
  pub brought : brings earlier row ≡ true

-- A line decides exactly if it brings something somewhere.
abbrev pub LinesDecideByWhatTheyBring : Type 0
LinesDecideByWhatTheyBring =
    (content : Content) (fs : ℕ) (row : Row) → AreAscending (rows_of content fs) → WriteDirectories content fs → Contains (rows_of content fs) row
    → IsNamed content fs row.entry.line ↔ BringsSomewhere (rows_of content fs) row

-- an earlier line that is selected for an address lists a path
pub record IsListedBefore (content : Content) (fs address : ℕ) (path : List (List ℕ)) (line : ℕ) : Type 0 where
  pub row : Row
  pub chosen : Contains (selected (rows_of content fs) address) row
  pub earlier : row.entry.line < line
  pub listed : lists content fs path row ≡ true

-- Wherever a line is selected that decides nothing, an earlier line that is selected, too, lists each path that it lists.
abbrev pub IdleLinesAreListedBefore : Type 0
IdleLinesAreListedBefore =
    (content : Content) (fs : ℕ) (row : Row) → AreAscending (rows_of content fs) → DecidesNothing content fs row.entry.line
    → (address : ℕ) (path : List (List ℕ)) → address < 2 ^ 32 → fs_of content.table path ≡ Some fs → Contains (selected (rows_of content fs) address) row → lists content fs path row ≡ true
    → IsListedBefore content fs address path row.entry.line
