-- What starting from heads and proposals and judging an edit promise. (this project's own)
use Rattle.std.specs.Prelude.{◌≡◌, ◌<◌, ℕ, Bool, List, None, Some, Result, Ok, Err, length, if◌then◌else◌}
use Rattle.desk_text.specs.declared.reading.ReadError.{ReadError}
use Rattle.desk_text.specs.declared.reading.ReadError.TheVariants.{Fault, Memory}
use Rattle.desk_tables.specs.Custodians.{read_custodians}
use Rattle.desk_tables.specs.declared.filesystems.Mount.{Mount}
use Rattle.desk_policy.specs.Parsing.{read_site_tables}
use Rattle.desk_policy.specs.Policy.{Content, with_rows}
use Rattle.desk_policy.specs.Site.{SiteTexts}
use Rattle.desk_policy.specs.View.{HasFault, IsPart}
use Rattle.desk_policy.specs.declared.site_fault.SiteFault.{SiteFault}
use Rattle.desk_policy.specs.SiteFile.{exports_place}
use Rattle.desk_core.specs.Edit.{Already, Answer, Edit, Pending, Refused}
use Rattle.desk_core.specs.Head.{CanBeKept, Revision, newest_in, put}
use Rattle.desk_core.specs.History.{entry_file}
use Rattle.desk_core.specs.Judging.{Answers, answer_of, entry_of, first_case}
use Rattle.desk_core.specs.Site.{IsInForce, site_in}
use Rattle.desk_core.specs.Standing.{CanBePending, Standing, standing_in}
use Rattle.desk_core.specs.Views.{Changed, Kept, Lines, Ready, Whole}
use Rattle.desk_core.specs.declared.edit.Refusal.{Refusal}
use Rattle.desk_core.specs.declared.entry.Entry.{Entry}
use Rattle.desk_core.specs.declared.entry.Entry.TheVariants as entry
use Rattle.desk_core.specs.declared.head.Head.{Head}
use Rattle.desk_core.specs.declared.proposal.Proposal.{Proposal}
use Rattle.desk_core.specs.declared.state.Judged.{Judged}
use Rattle.desk_core.specs.declared.state.Judged.TheVariants as judged

-- how files stand in a state
abbrev pub standing : {V : Type 0} → Kept V → Standing
standing state = standing_in state.heads state.proposals

-- the policy in force after a change of this one
abbrev pub changed : {V : Type 0} → (V → Content) → Content → Changed V → Content
changed in_force content (Whole made) = in_force made.view
changed in_force content (Lines fs rows) = with_rows content fs rows

-- Beside the policy: a whole site has the custodians and the tables of the new texts; lines may stand for those of their file
-- system, and the new texts write the same custodians and tables as the old.
abbrev pub RestsOn : {V : Type 0} → Content → SiteTexts → SiteTexts → Changed V → Type 0
RestsOn content old new (Whole made) = (read_custodians new.files.custodians ≡ Ok made.custodians) × (read_site_tables new ≡ Ok made.tables)
RestsOn content old new (Lines fs rows) =
    IsPart content fs rows × (read_custodians new.files.custodians ≡ read_custodians old.files.custodians) × (read_site_tables new ≡ read_site_tables old)

-- a change of a state puts the policy of a site in force
pub record PutsSite {V : Type 0} (in_force : V → Content) (state : Kept V) (change : Changed V) (texts : SiteTexts) : Type 0 where
  pub view : IsInForce texts (changed in_force (in_force state.view) change)
  pub rests_on : RestsOn (in_force state.view) (site_in (newest_in state.heads)) texts change

-- a revision, once it is the newest of its file: the change puts its site in force
pub record PutsRevision {V : Type 0} (in_force : V → Content) (state : Kept V) (ready : Ready V) (revision : Revision) : Type 0 where
  pub can_be_kept : CanBeKept revision
  pub site : PutsSite in_force state ready.change (site_in (put (newest_in state.heads) revision))

-- what is to be stored: of a revision, that; a proposal can be kept, and puts nothing in force
abbrev pub PutsEntry : {V : Type 0} → (V → Content) → Kept V → Ready V → Entry → Type 0
PutsEntry in_force state ready (entry.Revised revision) = PutsRevision in_force state ready revision
PutsEntry in_force state ready (entry.Proposed proposal) = CanBePending proposal

-- An edit of the exports file of a listed mount point changes the lines of its file system alone, and one of any other file the
-- whole site.
abbrev pub IsChangeOf : {V : Type 0} → List Mount → List ℕ → Changed V → Type 0
IsChangeOf table file (Whole made) = exports_place table file ≡ None
IsChangeOf table file (Lines fs rows) = exports_place table file ≡ Some fs

-- This state, as it is, accepted the edit: there is room for one head and for one proposal more, and what was made changes no
-- more than the edit's file asks, and puts the edit's revision in force.
pub record IsJudged {V : Type 0} (in_force : V → Content) (state : Kept V) (ready : Ready V) : Type 0 where
  pub room : length state.heads < ready.room
  pub proposal_room : length state.proposals < ready.proposal_room
  pub own : IsChangeOf (in_force state.view).table (entry_file ready.entry) ready.change
  pub puts : PutsEntry in_force state ready ready.entry

-- The site that the heads write is consistent, and the state has just these heads, these proposals and its policy in
-- force; or the site's fault is reported; out of memory says nothing.
abbrev pub Starts : {V : Type 0} → (V → Content) → List Head → List Proposal → Result (Kept V) (ReadError SiteFault) → Type 0
Starts in_force heads proposals (Ok state) = (state.heads ≡ heads) × (state.proposals ≡ proposals) × IsInForce (site_in (newest_in heads)) (in_force state.view)
Starts in_force heads proposals (Err (Fault fault)) = HasFault (site_in (newest_in heads)) fault
Starts in_force heads proposals (Err Memory) = Unit {0}

-- the answer that an edit was made before: it was stored, or it is proposed
abbrev pub again : ℕ → Bool → Answer
again number proposed = if proposed then Pending number else Already number

-- An accepted edit is answered as stored or as proposed, and brings what is to be stored and what puts it in force; any
-- other has its answer; and memory runs out only where no case holds.
abbrev pub Judges : {V : Type 0} → (V → Content) → Kept V → Edit → Result (Judged (Ready V)) (ReadError Refusal) → Type 0
Judges in_force state e (Ok (judged.Accepted ready)) =
    Answers (standing state) e (answer_of ready.entry) × (ready.entry ≡ entry_of (standing state) e) × IsJudged in_force state ready
Judges in_force state e (Ok (judged.Already number proposed)) = Answers (standing state) e (again number proposed)
Judges in_force state e (Err (Fault refused)) = Answers (standing state) e (Refused refused)
Judges in_force state e (Err Memory) = first_case (standing state) e ≡ None
