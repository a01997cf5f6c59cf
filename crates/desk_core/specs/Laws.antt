-- What the definitions of edits come to. (this project's own)
use Rattle.std.specs.Prelude.{◌≡◌, ◌≢◌, ◌↔◌, ◌⊎◌, ℕ, ◌+◌, ◌≤◌, true, false, List, [], ◌∷◌, ◌++◌, Some, None, Contains, length}
use Rattle.sha2.specs.Sha256.{sha256}
use Rattle.desk_tables.specs.Custodians.{digest_of}
use Rattle.desk_tables.specs.declared.filesystems.Mount.{Mount}
use Rattle.desk_policy.specs.Site.{SiteTexts}
use Rattle.desk_policy.specs.SiteFault.{exports_name}
use Rattle.desk_policy.specs.View.{HasFault}
use Rattle.desk_policy.specs.declared.site_fault.SiteFault.{SiteFault}
use Rattle.desk_policy.specs.SiteFile.{is_of_seven}
use Rattle.desk_core.specs.Edit.{Already, Answer, Edit, Pending, Proposed, Refused, Stored, approved_revision, proposal_of, revision_of}
use Rattle.desk_core.specs.Foresight.{with_text}
use Rattle.desk_core.specs.Head.{Newest, Revision, last_revision, longest_revision, newest_number, put}
use Rattle.desk_core.specs.History.{Exchange, IsHistory, Run, added_by, history_through, pending_in, standing_of}
use Rattle.desk_core.specs.Judging.{Answers, IsFileName, answer_in, first_case, is_guarded_file, is_known, keeps_file, table_in}
use Rattle.desk_core.specs.Site.{IsConsistent, custodians_of, policy_of, site_in}
use Rattle.desk_core.specs.Standing.{Standing, with_entry}
use Rattle.desk_core.specs.declared.edit.Refusal.{Refusal}
use Rattle.desk_core.specs.declared.edit.Refusal.TheVariants as refusal
use Rattle.desk_core.specs.declared.entry.Entry.{Entry}
use Rattle.desk_core.specs.declared.entry.Entry.TheVariants as entry
use Rattle.desk_core.specs.declared.judging.Case.{Case}
use Rattle.desk_core.specs.declared.proposal.Proposal.{Proposal}

-- The caller of an edit is listed with the digest of its key, the file is known, the caller keeps it, and the text is not
-- too long. All this is asked of the site in force before the edit.
pub record IsAllowed (newest : Newest) (e : Edit) : Type 0 where
  pub key : digest_of (custodians_of (site_in newest)) e.caller ≡ Some (sha256 e.key)
  pub known : is_known (table_in newest) e.file ≡ true
  pub keeps : keeps_file (table_in newest) e.caller e.file ≡ true
  pub short : length e.text ≤ longest_revision

-- An edit may be accepted: it is allowed, it names the newest revision, there is a further number, and the site with its
-- text is consistent.
pub record MayBeAccepted (standing : Standing) (e : Edit) : Type 0 where
  pub allowed : IsAllowed standing.newest e
  pub names_newest : newest_number (standing.newest e.file) ≡ e.base
  pub room : e.base ≢ last_revision
  pub consistent : IsConsistent (site_in (put standing.newest (revision_of e)))

-- Another custodian's proposal of the text of an edit is pending: it has the edit's base and text, and its author is
-- another than the caller, who still keeps the file.
pub record IsSeconded (standing : Standing) (e : Edit) (proposal : Proposal) : Type 0 where
  pub pending : standing.proposals e.file ≡ Some proposal
  pub base : proposal.base ≡ e.base
  pub text : proposal.body ≡ e.text
  pub other : proposal.author ≢ e.caller
  pub keeps : keeps_file (table_in standing.newest) proposal.author e.file ≡ true

-- the file of an edit is not guarded; or it is, and another custodian's proposal of its text is pending
abbrev pub NeedsNoSecond : Standing → Edit → Type 0
NeedsNoSecond standing e =
    (is_guarded_file (table_in standing.newest) e.file ≡ false)
    ⊎ ((is_guarded_file (table_in standing.newest) e.file ≡ true) × ((proposal : Proposal) × IsSeconded standing e proposal))

-- an edit may take effect: it may be accepted, and if the file is guarded, another custodian's proposal of its text is
-- pending
abbrev pub MayTakeEffect : Standing → Edit → Type 0
MayTakeEffect standing e = MayBeAccepted standing e × NeedsNoSecond standing e

-- an edit is proposed already: it is allowed, its file is guarded, and the file's proposal has its base, is by its caller
-- and has its text
pub record IsProposed (standing : Standing) (e : Edit) : Type 0 where
  pub allowed : IsAllowed standing.newest e
  pub guarded : is_guarded_file (table_in standing.newest) e.file ≡ true
  pub proposal : Proposal
  pub pending : standing.proposals e.file ≡ Some proposal
  pub base : proposal.base ≡ e.base
  pub author : proposal.author ≡ e.caller
  pub text : proposal.body ≡ e.text

-- an edit may be proposed: it may be accepted, the file is guarded, and no other custodian's proposal of its text is
-- pending, nor its own
pub record MayBeProposed (standing : Standing) (e : Edit) : Type 0 where
  pub accepted : MayBeAccepted standing e
  pub guarded : is_guarded_file (table_in standing.newest) e.file ≡ true
  pub first : (proposal : Proposal) → IsSeconded standing e proposal → ⊥
  pub fresh : IsProposed standing e → ⊥

-- an edit is a repeat: it is allowed, and the newest revision follows its base, is by its caller or approved by it, and
-- has its text
pub record IsRepeat (newest : Newest) (e : Edit) : Type 0 where
  pub allowed : IsAllowed newest e
  pub revision : Revision
  pub is_newest : newest e.file ≡ Some revision
  pub rev : revision.rev ≡ e.base + 1
  pub own : (revision.author ≡ e.caller) ⊎ (revision.approver ≡ Some e.caller)
  pub body : revision.body ≡ e.text

-- a refusal is that of the first case that holds
abbrev pub NamesFirst : Standing → Edit → Refusal → Type 0
NamesFirst standing e refused =
    (first : Case) × (first_case standing e ≡ Some first) × (Refused refused ≡ answer_in (standing.newest e.file) e first)

-- no case holds, and a refusal is the fault of the site with the edit's text
abbrev pub NamesFault : Standing → Edit → Refusal → Type 0
NamesFault standing e refused =
    (fault : SiteFault) × (refused ≡ refusal.Fault fault) × (first_case standing e ≡ None) × HasFault (site_in (put standing.newest (revision_of e))) fault

-- What an edit that takes effect adds: its revision by the caller; or, of a guarded file, that of the proposal's author,
-- approved by the caller.
abbrev pub AddsRevision : Standing → Edit → List Entry → Type 0
AddsRevision standing e added =
    ((is_guarded_file (table_in standing.newest) e.file ≡ false) × (added ≡ entry.Revised (revision_of e) ∷ []))
    ⊎ ((proposal : Proposal) × IsSeconded standing e proposal × (added ≡ entry.Revised (approved_revision proposal e) ∷ []))

-- What is promised of an answer to an edit at a history: it is stored, as the revision with the next number, exactly if
-- it may take effect, and adds just that; it is proposed exactly if it may be proposed, and adds just the proposal; it is
-- answered as a repeat exactly if it is one, and else as proposed already exactly if it is; and a refusal names its rule.
pub record IsRight (history : List Entry) (e : Edit) (answer : Answer) : Type 0 where
  pub effect : (number : ℕ) → (answer ≡ Stored number) ↔ ((number ≡ e.base + 1) × MayTakeEffect (standing_of history) e)
  pub proposal : (number : ℕ) → (answer ≡ Proposed number) ↔ ((number ≡ e.base + 1) × MayBeProposed (standing_of history) e)
  pub repeat : (number : ℕ) → (answer ≡ Already number) ↔ ((number ≡ e.base + 1) × IsRepeat (standing_of history).newest e)
  pub pending : (number : ℕ) → (answer ≡ Pending number) ↔ ((number ≡ e.base + 1) × IsProposed (standing_of history) e × (IsRepeat (standing_of history).newest e → ⊥))
  pub stored : (number : ℕ) → answer ≡ Stored number → AddsRevision (standing_of history) e (added_by (standing_of history) e answer)
  pub proposed : (number : ℕ) → answer ≡ Proposed number → added_by (standing_of history) e answer ≡ entry.Proposed (proposal_of e) ∷ []
  pub denial : (refused : Refusal) → answer ≡ Refused refused → NamesFirst (standing_of history) e refused ⊎ NamesFault (standing_of history) e refused

-- Answers are right.
abbrev pub AnswersAreRight : Type 0
AnswersAreRight = (history : List Entry) (e : Edit) (answer : Answer) → Answers (standing_of history) e answer → IsRight history e answer

-- the answer in the midst of a run is right at the history so far, and what it adds stands behind that; nothing else is
-- added
pub record TakesEffect (old new : List Entry) (before after : List Exchange) (e : Edit) (answer : Answer) : Type 0 where
  pub right : IsRight (history_through old before) e answer
  pub adds : new ≡ history_through (history_through old before ++ added_by (standing_of (history_through old before)) e answer) after

-- At any point of a run the history is what was there before and what the exchanges so far added, and nothing else; and the
-- next edit that is answered is answered rightly by that history.
abbrev pub EditsTakeEffect : Type 0
EditsTakeEffect =
    (old new : List Entry) (before after : List Exchange) (e : Edit) (answer : Answer)
    → Run old (before ++ record { edit = e; answer = Some answer } ∷ after) new → TakesEffect old new before after e answer

-- a proposal was pending before a run, or it is that of one of its edits, which was answered as proposed
abbrev pub WasProposed : List Entry → List Exchange → Proposal → Type 0
WasProposed old exchanges proposal =
    Contains (pending_in old) proposal
    ⊎ ((x : Exchange) × (number : ℕ) × Contains exchanges x × (x.answer ≡ Some (Proposed number)) × (proposal ≡ proposal_of x.edit))

-- Two custodians stand behind each edit of a guarded file that is stored: if this happens in a run, a proposal with its
-- base and its text was pending, by another custodian than its caller, who still keeps the file; and that proposal was
-- pending before the run, or is that of an earlier edit of the run, which was answered as proposed.
abbrev pub GuardedFilesHaveTwoKeepers : Type 0
GuardedFilesHaveTwoKeepers =
    (old new : List Entry) (before after : List Exchange) (e : Edit) (number : ℕ)
    → Run old (before ++ record { edit = e; answer = Some (Stored number) } ∷ after) new
    → is_guarded_file (table_in (standing_of (history_through old before)).newest) e.file ≡ true
    → (proposal : Proposal) × IsSeconded (standing_of (history_through old before)) e proposal × WasProposed old before proposal

-- In a run the revisions of each file stay numbered 1, 2, .. without a gap, and each pending proposal follows the newest
-- one.
abbrev pub HistoriesStayNumbered : Type 0
HistoriesStayNumbered = (old new : List Entry) (exchanges : List Exchange) → IsHistory old → Run old exchanges new → IsHistory new

-- So is the history with what an answered edit adds.
abbrev pub AnsweredEditsKeepTheNumbers : Type 0
AnsweredEditsKeepTheNumbers =
    (history : List Entry) (e : Edit) (answer : Answer) → IsHistory history → Answers (standing_of history) e answer → IsHistory (history ++ added_by (standing_of history) e answer)

-- Of a history with one entry more: a revision is the newest of its file, which then has no proposal; a proposal is that
-- of its file, in place of any other; and other files stay as they stand.
abbrev pub StandingOfALongerHistory : Type 0
StandingOfALongerHistory = (history : List Entry) (stored : Entry) → standing_of (history ++ stored ∷ []) ≡ with_entry (standing_of history) stored

-- A file that the policy of a site knows has a name that a file may have.
abbrev pub KnownFilesHaveNames : Type 0
KnownFilesHaveNames = (texts : SiteTexts) (file : List ℕ) → is_known (policy_of texts).table file ≡ true → IsFileName file

-- a file is the exports file of a listed mount point
abbrev pub IsExportsOf : List Mount → Mount → List ℕ → Type 0
IsExportsOf table mount file = Contains table mount × (file ≡ exports_name mount.path)

-- A file is known exactly if it is one of the seven, or the exports file of a listed mount point.
abbrev pub KnownFilesAreListed : Type 0
KnownFilesAreListed = (table : List Mount) (file : List ℕ) → (is_known table file ≡ true) ↔ ((is_of_seven file ≡ true) ⊎ ((mount : Mount) × IsExportsOf table mount file))

-- A guarded file is the exports file of a listed mount point that has the mark, and none of the seven.
abbrev pub GuardedFilesAreMarked : Type 0
GuardedFilesAreMarked =
    (table : List Mount) (file : List ℕ) → is_guarded_file table file ≡ true
    → (is_of_seven file ≡ false) × ((mount : Mount) × IsExportsOf table mount file × (mount.guarded ≡ true))

-- The site that is foreseen of a file's text is the one by which an edit of that file with that text is judged, and which it puts
-- in force: who asks, with which key and base, does not count.
abbrev pub ForeseenSitesAreJudged : Type 0
ForeseenSitesAreJudged = (newest : Newest) (e : Edit) → site_in (with_text newest e.file e.text) ≡ site_in (put newest (revision_of e))

-- A consistent site has no fault.
abbrev pub ConsistentSitesHaveNoFault : Type 0
ConsistentSitesHaveNoFault = (texts : SiteTexts) (fault : SiteFault) → IsConsistent texts → HasFault texts fault → ⊥
