-- What the rule of the server has to do with that of this desk. (this project's own)
use Rattle.std.specs.Prelude.{◌≡◌, ◌⊎◌, ◌↔◌, ℕ, ◌<◌, ◌^◌, Bool, true, Contains, List, [], Some, Ok, Err}
use Rattle.desk_tables.specs.FileSystems.{fs_of}
use Rattle.desk_tables.specs.declared.filesystems.FsId.{FsId}
use Rattle.desk_policy.specs.Contradiction.{AreConsistent}
use Rattle.desk_policy.specs.Policy.{AreAscending, Content, rows_of}
use Rattle.desk_policy.specs.Verdict.{Grant, lists, verdict_of}
use Rattle.desk_policy.specs.Weights.{weight_of}
use Rattle.desk_policy.specs.declared.row.Row.{Row}
use Rattle.desk_policy.specs.declared.verdict.Denial.TheVariants.{NotListed}
use Rattle.desk_server.specs.RepeatedClients.{AreRepeatedClients, loaded, loaded_content}
use Rattle.desk_server.specs.Server.{is_everybody, is_named, server_verdict_of}
use Rattle.desk_server.specs.WiderGrants.{AreWiderGrants}

-- the lines of each file system ascend, and do not contradict each other: so it is in each view of a policy
pub record IsInForce (content : Content) : Type 0 where
  pub ascending : (fs : ℕ) → AreAscending (rows_of content fs)
  pub consistent : (fs : ℕ) → AreConsistent (rows_of content fs)

-- What is granted here the server grants, by the same line and on the same terms.
abbrev pub GrantsAreTheServers : Type 0
GrantsAreTheServers =
    (content : Content) (address : ℕ) (path : List (List ℕ)) (grant : Grant) → IsInForce content → address < 2 ^ 32
    → verdict_of content address path ≡ Ok grant → server_verdict_of content address path ≡ Ok grant

-- The mount is denied here since no selected line lists the path, and the server grants it, on the terms of the line that the
-- denial names.
pub record IsGrantedMore (content : Content) (address : ℕ) (path : List (List ℕ)) : Type 0 where
  pub fs : FsId
  pub line : ℕ
  pub denied : verdict_of content address path ≡ Err (NotListed fs line)
  pub grant : Grant
  pub granted : server_verdict_of content address path ≡ Ok grant
  pub here : grant.fs ≡ fs
  pub row : Row
  pub has : Contains (rows_of content fs.0) row
  pub number : row.entry.line ≡ line
  pub terms : grant.terms ≡ row.entry.terms

-- The two verdicts differ in nothing else.
abbrev pub VerdictsDifferWhereTheServerGrantsMore : Type 0
VerdictsDifferWhereTheServerGrantsMore =
    (content : Content) (address : ℕ) (path : List (List ℕ)) → IsInForce content → address < 2 ^ 32
    → (server_verdict_of content address path ≡ verdict_of content address path) ⊎ IsGrantedMore content address path

-- a line that passes a test by its weight at an address lists the path
pub record ListsBy (passes : Row → Bool) (content : Content) (fs : ℕ) (path : List (List ℕ)) : Type 0 where
  pub row : Row
  pub has : Contains (rows_of content fs) row
  pub matches : passes row ≡ true
  pub listed : lists content fs path row ≡ true

-- no line of a file system matches an address by a name or by a network
abbrev pub NamesNobody : Content → ℕ → ℕ → Type 0
NamesNobody content fs address = (row : Row) → Contains (rows_of content fs) row → is_named (weight_of row address) ≡ true → ⊥

-- A line that names the client lists the path; or no line names the client, and one for everybody lists the path.
abbrev pub IsListedForMountd : Content → ℕ → ℕ → List (List ℕ) → Type 0
IsListedForMountd content fs address path =
    ListsBy (λ row. is_named (weight_of row address)) content fs path
    ⊎ (NamesNobody content fs address × ListsBy (λ row. is_everybody (weight_of row address)) content fs path)

-- Just then the server grants it.
abbrev pub ServerGrantsWhatIsListedForMountd : Type 0
ServerGrantsWhatIsListedForMountd =
    (content : Content) (fs address : ℕ) (path : List (List ℕ)) → fs_of content.table path ≡ Some fs
    → IsListedForMountd content fs address path ↔ ((grant : Grant) × (server_verdict_of content address path ≡ Ok grant))

-- If no line is told of a file system where the server grants more, the two verdicts are the same on all of it.
abbrev pub NothingWiderIsEqual : Type 0
NothingWiderIsEqual =
    (content : Content) (fs address : ℕ) (path : List (List ℕ)) → IsInForce content → address < 2 ^ 32 → fs_of content.table path ≡ Some fs
    → AreWiderGrants content fs [] → server_verdict_of content address path ≡ verdict_of content address path

-- If no line has a client of an earlier one, mountd puts all lines in force.
abbrev pub NothingRepeatedIsLoaded : Type 0
NothingRepeatedIsLoaded = (rows : List Row) → AreAscending rows → AreRepeatedClients rows [] → loaded rows ≡ rows

-- If neither is told of a file system, the verdict here is that of mountd's rule by the lines that it puts in force.
abbrev pub SilenceIsTheServersVerdict : Type 0
SilenceIsTheServersVerdict =
    (content : Content) (fs address : ℕ) (path : List (List ℕ)) → IsInForce content → address < 2 ^ 32 → fs_of content.table path ≡ Some fs
    → AreWiderGrants content fs [] → AreRepeatedClients (rows_of content fs) []
    → server_verdict_of (loaded_content content) address path ≡ verdict_of content address path

-- If no client is repeated, what is granted here is granted by mountd's rule by the lines that it puts in force, too, whatever else
-- it grants.
abbrev pub GrantsAreTheServersByLoadedLines : Type 0
GrantsAreTheServersByLoadedLines =
    (content : Content) (fs address : ℕ) (path : List (List ℕ)) (grant : Grant) → IsInForce content → address < 2 ^ 32 → fs_of content.table path ≡ Some fs
    → AreRepeatedClients (rows_of content fs) []
    → verdict_of content address path ≡ Ok grant → server_verdict_of (loaded_content content) address path ≡ Ok grant
