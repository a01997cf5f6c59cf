-- What the invariant of a state and the private contracts behind judging cite.
use Rattle.std.specs.Prelude.{◌≡◌, ◌<◌, ℕ, List, All, Result, Ok, Err, length}
use Rattle.desk_text.specs.declared.reading.ReadError.{ReadError}
use Rattle.desk_text.specs.declared.reading.ReadError.TheVariants.{Fault, Memory}
use Rattle.desk_tables.specs.Custodians.{read_custodians}
use Rattle.desk_tables.specs.declared.custodians.Custodian.{Custodian}
use Rattle.desk_policy.specs.Contradiction.{AreConsistent}
use Rattle.desk_policy.specs.Parsing.{read_site_tables}
use Rattle.desk_policy.specs.Policy.{AreAscending, Content, with_lines_of}
use Rattle.desk_policy.specs.Site.{SiteTexts}
use Rattle.desk_policy.specs.View.{HasFault, IsPart, NamesLeast}
use Rattle.desk_policy.specs.declared.parsing.SiteTables.{SiteTables}
use Rattle.desk_policy.specs.declared.row.Row.{Row}
use Rattle.desk_policy.specs.declared.site_fault.SiteFault.{SiteFault}
use Rattle.desk_core.specs.Edit.{Answer, Edit, Refused, revision_of}
use Rattle.desk_core.specs.Foresight.{HasLinesAlone, with_text}
use Rattle.desk_core.specs.Judging.{AnswersBySite, answer_of, entry_of}
use Rattle.desk_core.specs.Head.{CanBeKept, newest_in, put}
use Rattle.desk_core.specs.Site.{IsInForce, site_in}
use Rattle.desk_core.specs.State.{IsChangeOf, IsJudged, PutsSite, again, standing}
use Rattle.desk_core.specs.Views.{Changed, Kept, Lines, Ready, Whole, shown}
use Rattle.desk_core.specs.declared.change.Change.{Change}
use Rattle.desk_core.specs.declared.change.SiteInForce.{SiteInForce}
use Rattle.desk_core.specs.declared.edit.Refusal.{Refusal}
use Rattle.desk_core.specs.declared.edit.Refusal.TheVariants as refusal
use Rattle.desk_core.specs.Standing.{CanBePending}
use Rattle.desk_core.specs.declared.head.Head.{Head}
use Rattle.desk_core.specs.declared.proposal.Proposal.{Proposal}
use Rattle.desk_core.specs.declared.state.Judged.{Judged}
use Rattle.desk_core.specs.declared.state.Judged.TheVariants as judged

-- what a state keeps: the policy in force, and the custodians and the tables of the site
pub record IsState (heads : List Head) (proposals : List Proposal) (content : Content) (custodians : List Custodian) (tables : SiteTables) : Type 0 where
  pub in_force : IsInForce (site_in (newest_in heads)) content
  pub custodians_are : read_custodians (site_in (newest_in heads)).files.custodians ≡ Ok custodians
  pub tables_are : read_site_tables (site_in (newest_in heads)) ≡ Ok tables
  pub kept : All CanBeKept heads
  pub pending : All CanBePending proposals

-- the site of a state, but that a file has this text
abbrev pub site_with : {V : Type 0} → Kept V → List ℕ → List ℕ → SiteTexts
site_with state file text = site_in (with_text (newest_in state.heads) file text)

-- the answer of a case, as it is handed out
abbrev pub AnswersCase : {V : Type 0} → Result (Judged (Ready V)) (ReadError Refusal) → Answer → Type 0
AnswersCase (Ok (judged.Already number proposed)) answer = answer ≡ again number proposed
AnswersCase (Ok (judged.Accepted ready)) answer = ⊥
AnswersCase (Err (Fault refused)) answer = answer ≡ Refused refused
AnswersCase (Err Memory) answer = ⊥

-- what is to be stored is answered by the site with the edit's text, which is consistent, and what was made puts it in
-- force; or its fault is reported; out of memory says nothing
abbrev pub Accepts : {V : Type 0} → (V → Content) → Kept V → Edit → Result (Ready V) (ReadError Refusal) → Type 0
Accepts in_force state e (Ok ready) =
    AnswersBySite (site_in (put (newest_in state.heads) (revision_of e))) (entry_of (standing state) e) (answer_of ready.entry) × (ready.entry ≡ entry_of (standing state) e) × IsJudged in_force state ready
Accepts in_force state e (Err (Fault refused)) = (fault : SiteFault) × (refused ≡ refusal.Fault fault) × HasFault (site_in (put (newest_in state.heads) (revision_of e))) fault
Accepts in_force state e (Err Memory) = Unit {0}

-- what was made is the site's: its custodians, its tables, and its policy in force
pub record IsSiteInForce {V : Type 0} (in_force : V → Content) (texts : SiteTexts) (made : SiteInForce V) : Type 0 where
  pub custodians : read_custodians texts.files.custodians ≡ Ok made.custodians
  pub tables : read_site_tables texts ≡ Ok made.tables
  pub view : IsInForce texts (in_force made.view)

-- that, or the site's fault; out of memory says nothing
abbrev pub PutsInForce : {V : Type 0} → (V → Content) → SiteTexts → Result (SiteInForce V) (ReadError SiteFault) → Type 0
PutsInForce in_force texts (Ok made) = IsSiteInForce in_force texts made
PutsInForce in_force texts (Err (Fault fault)) = HasFault texts fault
PutsInForce in_force texts (Err Memory) = Unit {0}

-- a change is one of this file, and puts the policy of this site in force; or there is the site's fault; out of memory says nothing
abbrev pub MakesChange : {V P : Type 0} → (V → Content) → (P → List Row) → Kept V → List ℕ → SiteTexts → Result (Change V P) (ReadError SiteFault) → Type 0
MakesChange in_force part_rows state file texts (Ok change) = IsChangeOf (in_force state.view).table file (shown part_rows change) × PutsSite in_force state (shown part_rows change) texts
MakesChange in_force part_rows state file texts (Err (Fault fault)) = HasFault texts fault
MakesChange in_force part_rows state file texts (Err Memory) = Unit {0}

-- Lines of a file system: if they do not contradict each other, they put the policy of a site in force beside the other lines of a
-- state, and if they do, their least contradiction is the site's fault.
pub record AreLinesOf {V : Type 0} (in_force : V → Content) (state : Kept V) (fs : ℕ) (texts : SiteTexts) (rows : List Row) : Type 0 where
  pub file_system : fs < length (in_force state.view).table
  pub ascending : AreAscending rows
  pub puts : AreConsistent rows → PutsSite in_force state (Lines fs rows) texts
  pub contradict : (fault : SiteFault) → NamesLeast (in_force state.view) fs rows fault → HasFault texts fault

-- lines that are such, or the site's fault; out of memory says nothing
abbrev pub ReadsRows : {V : Type 0} → (V → Content) → Kept V → ℕ → SiteTexts → Result (List Row) (ReadError SiteFault) → Type 0
ReadsRows in_force state fs texts (Ok rows) = AreLinesOf in_force state fs texts rows
ReadsRows in_force state fs texts (Err (Fault fault)) = HasFault texts fault
ReadsRows in_force state fs texts (Err Memory) = Unit {0}

-- a view of lines alone, which put the policy of a site in force beside the other lines of a state; or the site's fault; out of memory
-- says nothing
abbrev pub ShowsLines : {V : Type 0} → (V → Content) → Kept V → ℕ → SiteTexts → Result V (ReadError SiteFault) → Type 0
ShowsLines in_force state fs texts (Ok view) = HasLinesAlone (in_force state.view) fs (in_force view) × IsInForce texts (with_lines_of (in_force state.view) fs (in_force view))
ShowsLines in_force state fs texts (Err (Fault fault)) = HasFault texts fault
ShowsLines in_force state fs texts (Err Memory) = Unit {0}

-- the custodians and the tables after a change
abbrev pub custodians_after : {V : Type 0} → List Custodian → Changed V → List Custodian
custodians_after custodians (Whole made) = made.custodians
custodians_after custodians (Lines fs rows) = custodians

abbrev pub tables_after : {V : Type 0} → SiteTables → Changed V → SiteTables
tables_after tables (Whole made) = made.tables
tables_after tables (Lines fs rows) = tables

-- the lines of a change may stand in this policy
abbrev pub MayStand : {V : Type 0} → Content → Changed V → Type 0
MayStand content (Whole made) = Unit {0}
MayStand content (Lines fs rows) = IsPart content fs rows

-- the fault of the site as why an edit is refused
abbrev pub refusal_of : ReadError SiteFault → ReadError Refusal
refusal_of (Fault fault) = Fault (refusal.Fault fault)
refusal_of Memory = Memory
