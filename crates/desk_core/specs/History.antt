-- Histories: what was stored of the files of a site, revisions and proposals, and what a run of edits adds to it. (this
-- project's own)
use Rattle.std.specs.Prelude.{◌≡◌, ℕ, ◌-◌, List, [], ◌∷◌, ◌++◌, Option, Some, None, All, filter, length, map, slice_get, if◌then◌else◌}
use Rattle.std.specs.List.{cons_option, filter_map, list_any, range_with_len}
use Rattle.std.specs.Str.{bytes_eq}
use Rattle.desk_core.specs.Edit.{Already, Answer, Edit, Pending, Proposed, Refused, Stored}
use Rattle.desk_core.specs.Head.{Newest, Revision, newest_number}
use Rattle.desk_core.specs.Judging.{Answers, entry_of}
use Rattle.desk_core.specs.Standing.{Standing, proposals_in}
use Rattle.desk_core.specs.declared.entry.Entry.{Entry}
use Rattle.desk_core.specs.declared.entry.Entry.TheVariants as entry
use Rattle.desk_core.specs.declared.proposal.Proposal.{Proposal}

-- the revision that is stored, if it is one
abbrev pub revision_in : Entry → Option Revision
revision_in (entry.Revised revision) = Some revision
revision_in (entry.Proposed proposal) = None

-- the proposal that is stored, if it is one
abbrev pub proposal_in : Entry → Option Proposal
proposal_in (entry.Revised revision) = None
proposal_in (entry.Proposed proposal) = Some proposal

-- the file of what is stored
abbrev pub entry_file : Entry → List ℕ
entry_file (entry.Revised revision) = revision.file
entry_file (entry.Proposed proposal) = proposal.file

-- the revisions of one file, oldest first; a history is a list of what was stored, in that order
abbrev pub revisions_of : List ℕ → List Entry → List Revision
revisions_of file history = filter (λ revision. bytes_eq revision.file file) (filter_map revision_in history)

-- the newest revisions of a history
unfoldable pub newest_of : List Entry → Newest
newest_of history file = slice_get (revisions_of file history) (length (revisions_of file history) - 1)

-- a proposal behind which nothing of its file was stored
abbrev pub pending_if : Entry → List Entry → Option Proposal
pending_if stored later = if list_any (λ other. bytes_eq (entry_file other) (entry_file stored)) later then None else proposal_in stored

-- The proposals that are pending: nothing of their file was stored behind them, neither a revision nor another proposal.
abbrev pub pending_in : List Entry → List Proposal
pending_in [] = []
pending_in (stored ∷ later) = cons_option (pending_if stored later) (pending_in later)

-- how files stand by a history: each has its newest revision, and the proposal that is pending
abbrev pub standing_of : List Entry → Standing
standing_of history = record { newest = newest_of history; proposals = proposals_in (pending_in history) }

-- Of each file the revisions are numbered 1, 2, .. without a gap; and each proposal that is pending follows the newest
-- revision.
pub record IsHistory (history : List Entry) : Type 0 where
  pub numbered : (file : List ℕ) → map (λ revision. revision.rev) (revisions_of file history) ≡ range_with_len 1 (length (revisions_of file history))
  pub follow : All (λ proposal. newest_number (newest_of history proposal.file) ≡ proposal.base) (pending_in history)

-- what an answer adds: an edit that is stored, or proposed, what there is to store of it, and any other answer nothing
abbrev pub added_by : Standing → Edit → Answer → List Entry
added_by standing e (Stored number) = entry_of standing e ∷ []
added_by standing e (Proposed number) = entry_of standing e ∷ []
added_by standing e (Already number) = []
added_by standing e (Pending number) = []
added_by standing e (Refused refused) = []

-- an edit, and its answer; there is none if memory ran out or the store refused it
pub record Exchange : Type 0 where
  pub edit : Edit
  pub answer : Option Answer

-- what an exchange adds: without an answer nothing
abbrev pub added_if : Standing → Edit → Option Answer → List Entry
added_if standing e None = []
added_if standing e (Some answer) = added_by standing e answer

-- an answer, if there is one, is right at a history
abbrev pub IsAnswered : List Entry → Edit → Option Answer → Type 0
IsAnswered history e None = Unit {0}
IsAnswered history e (Some answer) = Answers (standing_of history) e answer

-- the history after an exchange
abbrev pub history_after : List Entry → Exchange → List Entry
history_after history x = history ++ added_if (standing_of history) x.edit x.answer

-- the history after exchanges, one after another
abbrev pub history_through : List Entry → List Exchange → List Entry
history_through history [] = history
history_through history (x ∷ xs) = history_through (history_after history x) xs

-- a run: these edits are answered so, one after another, and lead from one history to another
abbrev pub Run : List Entry → List Exchange → List Entry → Type 0
Run old [] new = new ≡ old
Run old (x ∷ xs) new = IsAnswered old x.edit x.answer × Run (history_after old x) xs new
