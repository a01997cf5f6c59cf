-- Where `check` is silent about mountd(8), what is proved here of a policy holds by its rule, too. (this project's own)
use Rattle.std.specs.Prelude.{◌≡◌, ℕ, ◌<◌, ◌^◌, ◌||◌, All, Bool, true, false, Contains, List, [], Ok, Some, IfSome}
use Rattle.std.specs.List.{list_any}
use Rattle.desk_tables.specs.Custodians.{read_custodians}
use Rattle.desk_tables.specs.FileSystems.{fs_of}
use Rattle.desk_tables.specs.FileSystemsText.{read_filesystems}
use Rattle.desk_tables.specs.declared.custodians.Custodian.{Custodian}
use Rattle.desk_tables.specs.declared.filesystems.Mount.{Mount}
use Rattle.desk_exports.specs.declared.profile.Profile.TheVariants.{Two}
use Rattle.desk_policy.specs.Parsing.{if_listed, read_whole_with}
use Rattle.desk_policy.specs.Policy.{Content, rows_of}
use Rattle.desk_policy.specs.Verdict.{verdict_of}
use Rattle.desk_policy.specs.declared.parsing.SiteTables.{SiteTables}
use Rattle.desk_policy.specs.declared.row.Row.{Row}
use Rattle.desk_remarks.specs.declared.remark.Remark.TheVariants.{ServerGrantsMore, RepeatedClient}
use Rattle.desk_server.specs.RepeatedClients.{AreRepeatedClients, loaded, loaded_content}
use Rattle.desk_server.specs.Server.{server_verdict_of}
use Rattle.desk_server.specs.WiderGrants.{AreWiderGrants}
use Rattle.desk_findings.specs.CheckOdd.{IsOnNumbered}
use Rattle.desk_findings.specs.CheckSite.{GathersSite}
use Rattle.desk_findings.specs.CheckText.{Gathers, tables_of}
use Rattle.desk_findings.specs.Finding.{is_fault}
use Rattle.desk_findings.specs.declared.check_site.SiteSources.{SiteSources}
use Rattle.desk_findings.specs.declared.check_text.Gathered.{Gathered}
use Rattle.desk_findings.specs.declared.check_text.WholeSources.{WholeSources}
use Rattle.desk_findings.specs.declared.finding.Finding.{Finding}
use Rattle.desk_findings.specs.declared.finding.Matter.{Matter}
use Rattle.desk_findings.specs.declared.finding.Matter.TheVariants as matter

-- a finding about this says that mountd(8) grants more than this desk
abbrev pub tells_more : Matter → Bool
tells_more (matter.Fault rule other) = false
tells_more (matter.Contradiction other address) = false
tells_more (matter.Warning kind) = false
tells_more (matter.Remark ServerGrantsMore example) = true
tells_more (matter.Remark _ example) = false

-- a finding about this says that mountd(8) may leave a line out
abbrev pub tells_repeated : Matter → Bool
tells_repeated (matter.Fault rule other) = false
tells_repeated (matter.Contradiction other address) = false
tells_repeated (matter.Warning kind) = false
tells_repeated (matter.Remark RepeatedClient example) = true
tells_repeated (matter.Remark _ example) = false

-- a finding about this says that mountd(8) grants more than this desk, or may leave a line out
abbrev pub is_of_server : Matter → Bool
is_of_server matter = tells_more matter || tells_repeated matter

-- no finding is a fault
abbrev pub HasNoFault : List Finding → Type 0
HasNoFault findings = list_any (λ finding. is_fault finding.matter) findings ≡ false

-- no finding is a fault, and none says either of mountd(8)
abbrev pub IsSilent : List Finding → Type 0
IsSilent findings = list_any (λ finding. is_fault finding.matter || is_of_server finding.matter) findings ≡ false

-- a finding is told on the line of this number; one that has no place counts for each line
abbrev pub IsToldOn : List ℕ → ℕ → Finding → Type 0
IsToldOn text line finding = IfSome finding.place (IsOnNumbered text line)

-- no finding that says this is told on one of these lines of a text
abbrev pub NoneIsToldOn : (Matter → Bool) → List ℕ → List Row → List Finding → Type 0
NoneIsToldOn says text rows findings =
    All (λ finding. (row : Row) → Contains rows row → says finding.matter ≡ true → IsToldOn text row.entry.line finding → ⊥) findings

-- No line of a file system is told where the server grants more, and none that has a client of an earlier one.
pub record IsQuiet (content : Content) (fs : ℕ) : Type 0 where
  pub wider : AreWiderGrants content fs []
  pub repeated : AreRepeatedClients (rows_of content fs) []

-- these texts write this policy, by profile 2
pub record Write (sources : WholeSources) (table : List Mount) (content : Content) : Type 0 where
  pub site_tables : SiteTables
  pub reads_tables : tables_of sources.tables ≡ Ok site_tables
  pub reads_exports : read_whole_with Two site_tables table sources.exports.text.now ≡ Ok content

-- the texts of a site's files write this policy, by profile 2, and each custodian that its file systems name is listed
pub record WriteSite (sources : SiteSources) (content : Content) : Type 0 where
  pub custodians : List Custodian
  pub table : List Mount
  pub reads_custodians : read_custodians sources.custodians.text.now ≡ Ok custodians
  pub reads_filesystems : if_listed custodians (read_filesystems sources.filesystems.text.now) ≡ Ok table
  pub writes : Write sources.whole table content

-- If no finding on a line of a file system says that mountd(8) grants more, each verdict on a path of it is that of mountd's rule.
abbrev pub EqualIfNothingWider : List ℕ → List Finding → Content → Type 0
EqualIfNothingWider text findings content =
    (fs : ℕ) → NoneIsToldOn tells_more text (rows_of content fs) findings
    → (address : ℕ) (path : List (List ℕ)) → address < 2 ^ 32 → fs_of content.table path ≡ Some fs
    → server_verdict_of content address path ≡ verdict_of content address path

-- If no finding on a line of a file system says that mountd(8) may leave it out, mountd puts all lines of the file system in force.
abbrev pub LoadedIfNothingRepeated : List ℕ → List Finding → Content → Type 0
LoadedIfNothingRepeated text findings content =
    (fs : ℕ) → NoneIsToldOn tells_repeated text (rows_of content fs) findings → loaded (rows_of content fs) ≡ rows_of content fs

-- If no finding on a line of a file system says either, each verdict on a path of it is that of mountd's rule by the lines that it puts in
-- force.
abbrev pub TheServersIfNeither : List ℕ → List Finding → Content → Type 0
TheServersIfNeither text findings content =
    (fs : ℕ) → NoneIsToldOn tells_more text (rows_of content fs) findings → NoneIsToldOn tells_repeated text (rows_of content fs) findings
    → (address : ℕ) (path : List (List ℕ)) → address < 2 ^ 32 → fs_of content.table path ≡ Some fs
    → server_verdict_of (loaded_content content) address path ≡ verdict_of content address path

-- Whenever nothing that is found in texts is a fault, this holds of the exports text, of the findings and of the policy.
abbrev pub OfFaultless : (List ℕ → List Finding → Content → Type 0) → Type 0
OfFaultless Holds =
    (opinions : Bool) (sources : WholeSources) (table : List Mount) (gathered : Gathered) (content : Content) → Gathers opinions sources table gathered → HasNoFault gathered.findings
    → Write sources table content → Holds sources.exports.text.now gathered.findings content

-- Whenever nothing that is found in the files of a site is a fault, it holds of theirs.
abbrev pub OfFaultlessSite : (List ℕ → List Finding → Content → Type 0) → Type 0
OfFaultlessSite Holds =
    (opinions : Bool) (sources : SiteSources) (gathered : Gathered) (content : Content) → GathersSite opinions sources gathered → HasNoFault gathered.findings
    → WriteSite sources content → Holds sources.whole.exports.text.now gathered.findings content

-- If nothing that is found in texts is a fault, they write a policy.
abbrev pub FaultlessTextsWrite : Type 0
FaultlessTextsWrite =
    (opinions : Bool) (sources : WholeSources) (table : List Mount) (gathered : Gathered) → Gathers opinions sources table gathered → HasNoFault gathered.findings
    → (content : Content) × Write sources table content

-- If nothing that is found in the files of a site is a fault, they write a policy.
abbrev pub FaultlessSitesWrite : Type 0
FaultlessSitesWrite =
    (opinions : Bool) (sources : SiteSources) (gathered : Gathered) → GathersSite opinions sources gathered → HasNoFault gathered.findings
    → (content : Content) × WriteSite sources content

-- Silent findings have no fault, and none says either of mountd(8) on a line, whatever lines of a text are asked about.
abbrev pub SilentFindingsSayNothing : Type 0
SilentFindingsSayNothing =
    (findings : List Finding) (text : List ℕ) (rows : List Row) → IsSilent findings
    → HasNoFault findings × (NoneIsToldOn tells_more text rows findings × NoneIsToldOn tells_repeated text rows findings)

-- If what is found in texts is silent, so it is of each file system of the policy that they write.
abbrev pub SilentFindingsAreQuiet : Type 0
SilentFindingsAreQuiet =
    (opinions : Bool) (sources : WholeSources) (table : List Mount) (gathered : Gathered) (content : Content) → Gathers opinions sources table gathered → IsSilent gathered.findings
    → Write sources table content → (fs : ℕ) (path : List (List ℕ)) → fs_of content.table path ≡ Some fs → IsQuiet content fs

-- Then each verdict of the policy is that of mountd's rule by the lines that it puts in force.
abbrev pub SilentFindingsAreTheServers : Type 0
SilentFindingsAreTheServers =
    (opinions : Bool) (sources : WholeSources) (table : List Mount) (gathered : Gathered) (content : Content) → Gathers opinions sources table gathered → IsSilent gathered.findings
    → Write sources table content → (address : ℕ) (path : List (List ℕ)) → address < 2 ^ 32
    → server_verdict_of (loaded_content content) address path ≡ verdict_of content address path

-- If what is found in the files of a site is silent, each verdict of their policy is that of mountd's rule by the lines that it puts in
-- force.
abbrev pub SilentSitesAreTheServers : Type 0
SilentSitesAreTheServers =
    (opinions : Bool) (sources : SiteSources) (gathered : Gathered) (content : Content) → GathersSite opinions sources gathered → IsSilent gathered.findings
    → WriteSite sources content → (address : ℕ) (path : List (List ℕ)) → address < 2 ^ 32
    → server_verdict_of (loaded_content content) address path ≡ verdict_of content address path
