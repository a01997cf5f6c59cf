-- What a view of a policy is built of, when it is refused, and when a site is consistent. (this project's own)
use Rattle.std.specs.Prelude.{◌≡◌, ◌↔◌, ℕ, ◌<◌, List, Option, Some, None, Result, Ok, Err, length, slice_get}
use Rattle.std.specs.Option.{option_map}
use Rattle.desk_text.specs.Address.{number_of}
use Rattle.desk_text.specs.declared.reading.ReadError.{ReadError}
use Rattle.desk_text.specs.declared.reading.ReadError.TheVariants.{Fault, Memory}
use Rattle.desk_policy.specs.Contradiction.{AreConsistent, HasNoContradiction, IsLeastIn}
use Rattle.desk_policy.specs.Parsing.{read_site}
use Rattle.desk_policy.specs.Policy.{AreAscending, Content, rows_of, with_warnings}
use Rattle.desk_policy.specs.Site.{SiteTexts}
use Rattle.desk_policy.specs.SiteFault.{contradiction_fault, exports_name}
use Rattle.desk_policy.specs.Verdict.{verdict_of}
use Rattle.desk_policy.specs.declared.contradiction.Contradiction.{Contradiction}
use Rattle.desk_policy.specs.declared.row.Row.{Row}
use Rattle.desk_policy.specs.declared.site_fault.SiteFault.{SiteFault}
use Rattle.desk_policy.specs.declared.warning.Warning.{Warning}

-- a fault names the least contradiction of a policy: by mount point, later line, earlier line and address
pub record IsLeastContradiction (content : Content) (fault : SiteFault) : Type 0 where
  pub fs : ℕ
  pub found : Contradiction
  pub named : option_map (λ mount. contradiction_fault (exports_name mount.path) found) (slice_get content.table fs) ≡ Some fault
  pub here : IsLeastIn (rows_of content fs) found.line found.other (number_of found.address)
  pub before : (place : ℕ) → place < fs → AreConsistent (rows_of content place)

-- the least contradiction of a policy, or none where there is none
abbrev pub IsLeastOrNone : Content → Option SiteFault → Type 0
IsLeastOrNone content None = HasNoContradiction content
IsLeastOrNone content (Some fault) = IsLeastContradiction content fault

-- with other warnings a policy gives the same verdicts, and has the same least contradiction or none
pub record AnswersAlike (content other : Content) : Type 0 where
  pub verdicts : (address : ℕ) (path : List (List ℕ)) → verdict_of other address path ≡ verdict_of content address path
  pub consistent : HasNoContradiction other ↔ HasNoContradiction content
  pub least : (fault : SiteFault) → IsLeastContradiction other fault ↔ IsLeastContradiction content fault

abbrev pub WarningsChangeNoAnswer : Type 0
WarningsChangeNoAnswer = (content : Content) (warnings : List Warning) → AnswersAlike content (with_warnings content warnings)

-- a view keeps the policy, which has no contradiction, or the policy's least one is reported; out of memory says nothing
abbrev pub Builds : {V : Type 0} → (V → Content) → Content → Result V (ReadError SiteFault) → Type 0
Builds in_force policy (Ok view) = (in_force view ≡ policy) × HasNoContradiction policy
Builds in_force policy (Err (Fault fault)) = IsLeastContradiction policy fault
Builds in_force policy (Err Memory) = Unit {0}

-- lines that may stand for a file system: they ascend, and do not contradict each other
pub record IsPart (content : Content) (fs : ℕ) (rows : List Row) : Type 0 where
  pub file_system : fs < length content.table
  pub ascending : AreAscending rows
  pub consistent : AreConsistent rows

-- a fault names the least contradiction of these lines, as lines of this file system
pub record NamesLeast (content : Content) (fs : ℕ) (rows : List Row) (fault : SiteFault) : Type 0 where
  pub found : Contradiction
  pub named : option_map (λ mount. contradiction_fault (exports_name mount.path) found) (slice_get content.table fs) ≡ Some fault
  pub least : IsLeastIn rows found.line found.other (number_of found.address)

-- the least contradiction of these lines, or none
abbrev pub IsLeastOfRows : Content → ℕ → List Row → Option SiteFault → Type 0
IsLeastOfRows content fs rows None = AreConsistent rows
IsLeastOfRows content fs rows (Some fault) = NamesLeast content fs rows fault

-- a part keeps the lines, which may stand for the file system, or their least contradiction is reported; out of memory says
-- nothing
abbrev pub MakesPart : {P : Type 0} → (P → List Row) → Content → ℕ → List Row → Result P (ReadError SiteFault) → Type 0
MakesPart part_rows content fs rows (Ok part) = (part_rows part ≡ rows) × IsPart content fs rows
MakesPart part_rows content fs rows (Err (Fault fault)) = NamesLeast content fs rows fault
MakesPart part_rows content fs rows (Err Memory) = Unit {0}

abbrev pub IsFaultOf : Result Content SiteFault → SiteFault → Type 0
IsFaultOf (Ok policy) fault = IsLeastContradiction policy fault
IsFaultOf (Err first) fault = fault ≡ first

-- this is the fault of a site: that of the first faulty file, or else the least contradiction
abbrev pub HasFault : SiteTexts → SiteFault → Type 0
HasFault texts fault = IsFaultOf (read_site texts) fault

-- a view keeps the policy that the texts write, which has no contradiction, or the site's fault is reported; out of memory
-- says nothing
abbrev pub Compiles : {V : Type 0} → (V → Content) → SiteTexts → Result V (ReadError SiteFault) → Type 0
Compiles in_force texts (Ok view) = (read_site texts ≡ Ok (in_force view)) × HasNoContradiction (in_force view)
Compiles in_force texts (Err (Fault fault)) = HasFault texts fault
Compiles in_force texts (Err Memory) = Unit {0}
