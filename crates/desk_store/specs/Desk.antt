-- What a desk shows, how it stands to a history, and what its calls promise. (this project's own)
use Rattle.std.specs.Prelude.{◌≡◌, ◌≢◌, ◌⊎◌, ℕ, ◌+◌, ◌<◌, ◌≤◌, ◌++◌, ◌==◌, Bool, true, false, List, [], ◌∷◌, Option, Some, None, Result, Ok, Err, All, Contains, IfOk, IsTrue, OnErr, OnOk, codes, find, length, if◌then◌else◌, refl}
use Rattle.std.specs.List.{cons_option}
use Rattle.std.specs.Option.{option_map}
use Rattle.std.specs.Str.{IsUtf8}
use Rattle.std.specs.Coded.{Coded, code_by, coded×}
use Rattle.sqlite_trees.specs.declared.store.Store.{Ghosts}
use Rattle.sqlite_trees.specs.View.{doubt}
use Rattle.sqlite.specs.Held.{Held, held_code, state}
use Rattle.sqlite.specs.State.{HasCleanDisk, State, Survives}
use Rattle.sqlite.specs.Effect.{Database, IsDatabase}
use Rattle.sqlite.specs.Tree.{Trees}
use Rattle.desk_policy.specs.Policy.{Content}
use Rattle.desk_core.specs.Edit.{Already, Answer, Edit, Pending, Proposed, Refused, Stored, revision_of}
use Rattle.desk_core.specs.Head.{Revision, last_revision, longest_revision, put}
use Rattle.desk_core.specs.History.{IsAnswered, IsHistory, added_if, newest_of, pending_in, revisions_of, standing_of}
use Rattle.desk_core.specs.Judging.{Answers, IsExportsName, IsFileName, answer_of, entry_of, first_case, seven}
use Rattle.desk_core.specs.Site.{IsConsistent, site_in}
use Rattle.desk_core.specs.Standing.{Standing, with_entry}
use Rattle.desk_core.specs.State.{IsJudged, again, standing}
use Rattle.desk_core.specs.Views.{Kept, Ready, kept_code}
use Rattle.desk_core.specs.declared.entry.Entry.{Entry}
use Rattle.desk_core.specs.declared.entry.Entry.TheVariants as entry
use Rattle.desk_core.specs.declared.proposal.Proposal.{Proposal}
use Rattle.desk_store.specs.Tables.{EntryRows, IsAtRest, IsKeyed, LeadsTo, LeavesCommit, Stores, StoresIn}
use Rattle.desk_store.specs.History.{Holds, entry_rows, revisions_in}
use Rattle.desk_store.specs.declared.desk.Done.{Done}
use Rattle.desk_store.specs.declared.desk.Revision.{Revision as Found}
use Rattle.desk_store.specs.declared.desk.Signature.{Signature}
use Rattle.desk_store.specs.declared.error.DeskError.{DeskError}
use Rattle.desk_store.specs.declared.error.DeskError.TheVariants as error

-- a desk as its callers see it: its connection, and the state that it keeps beside the tables
pub record Shown (S V : Type 0) : Type 0 where
  pub conn : Held S
  pub state : Kept V

abbrev pub shown_code : {S V : Type 0} → Coded S → Coded V → Coded (Shown S V)
shown_code {S} {V} store view =
    code_by (Held S × Kept V) (coded× (held_code store) (kept_code view)) (λ d. (d.conn, d.state)) (λ p. record { conn = p.0; state = p.1 }) (λ _. refl)

-- what was stored of files, revisions and proposals, in that order
abbrev pub History : Type 0
History = List Entry

-- a revision that a database of this project may hold
pub record IsStorable (r : Revision) : Type 0 where
  pub name : IsFileName r.file
  pub from : 0 < r.rev
  pub rev : r.rev ≤ last_revision
  pub file : IsUtf8 r.file
  pub author : IsUtf8 r.author
  pub approver : All IsUtf8 (cons_option r.approver [])
  pub body : IsUtf8 r.body
  pub short : length r.body ≤ longest_revision

-- a proposal that a database of this project may hold
pub record MayPend (p : Proposal) : Type 0 where
  pub name : IsExportsName p.file
  pub file : IsUtf8 p.file
  pub author : IsUtf8 p.author
  pub body : IsUtf8 p.body
  pub short : length p.body ≤ longest_revision

-- the history of a site, as a database of this project may hold it: each of the seven files has a revision, and the site is
-- consistent
pub record IsSiteHistory (history : List Entry) : Type 0 where
  pub numbered : IsHistory history
  pub each : All IsStorable (revisions_in history)
  pub pending : All MayPend (pending_in history)
  pub complete : All (λ file. revisions_of file history ≢ []) seven
  pub consistent : IsConsistent (site_in (newest_of history))

-- what a crash may leave: a database that holds the history, or it and one of the entries whose edits had no answer since the last
-- one stored; either is the history of a site
abbrev pub LeavesHistory : (Trees → Type 0) → List Entry → List Entry → Type 0
LeavesHistory may_leave history pending =
    (trees : Trees) → may_leave trees → (db : Database) × IsDatabase db × (trees ≡ db.trees)
    × (Holds db history ⊎ ((stored : Entry) × Contains pending stored × Holds db (history ++ stored ∷ []) × IsSiteHistory (history ++ stored ∷ [])))

-- A desk stands at a history: its heads are the newest revisions, and its proposals those that are pending; its tables hold the
-- history while the connection is open; and whatever a crash leaves holds it, and at most one of the entries without an answer more.
pub record Stands {V : Type 0} (s : State) (state : Kept V) (history pending : List Entry) : Type 0 where
  pub stored : IsSiteHistory history
  pub standing_is : standing state ≡ standing_of history
  pub tables : IsTrue s.is_open → Holds s.committed history
  pub leaves : LeavesHistory s.may_leave history pending

-- what a desk keeps true while nothing else has written its files
pub record IsDesk {V : Type 0} (s : State) (state : Kept V) : Type 0 where
  pub rest : IsAtRest s
  pub keyed : IsTrue s.is_open → IsKeyed s.committed (codes "proposal")
  pub history : List Entry
  pub pending : List Entry
  pub stands : Stands s state history pending

-- The desk is as it was: its state, and whatever it stood at; no fault of the disk is forgotten.
pub record Stays {V : Type 0} (old new : State) (before after : Kept V) : Type 0 where
  pub state : after ≡ before
  pub disk : doubt old.is_clean ≤ doubt new.is_clean
  pub stands : HasCleanDisk new → (history pending : List Entry) → Stands old before history pending → Stands new after history pending

-- what is told of an edit that is not refused
abbrev pub answer_told : Done → Answer
answer_told done = if done.already then again done.rev done.proposed else if done.proposed then Proposed done.rev else Stored done.rev

-- the answer that a result tells; out of memory and a refused statement are none
abbrev pub told : Result Done DeskError → Option Answer
told (Ok done) = Some (answer_told done)
told (Err (error.Refused refusal)) = Some (Refused refusal)
told (Err (error.Store fault)) = None
told (Err error.Schema) = None
told (Err error.Memory) = None

-- the entries that a crash may still bring to light after an edit
abbrev pub pending_after : List Entry → Standing → Edit → Option Answer → List Entry
pending_after pending standing e None = pending ++ entry_of standing e ∷ []
pending_after pending standing e (Some (Stored number)) = []
pending_after pending standing e (Some (Proposed number)) = []
pending_after pending standing e (Some (Already number)) = pending
pending_after pending standing e (Some (Pending number)) = pending
pending_after pending standing e (Some (Refused refusal)) = pending

-- What an edit is answered by how files stand, whatever the disk does: what the definition says. The store refuses only an edit
-- that could be stored or proposed, and memory runs out only where no case holds.
abbrev pub AnswersBy : Standing → Edit → Result Done DeskError → Type 0
AnswersBy standing e (Ok done) = Answers standing e (answer_told done)
AnswersBy standing e (Err (error.Refused refusal)) = Answers standing e (Refused refusal)
AnswersBy standing e (Err (error.Store fault)) = Answers standing e (answer_of (entry_of standing e))
AnswersBy standing e (Err error.Schema) = ⊥
AnswersBy standing e (Err error.Memory) = first_case standing e ≡ None

-- how files stand after an answer: with what it adds
abbrev pub standing_after : Standing → Edit → Option Answer → Standing
standing_after standing e None = standing
standing_after standing e (Some (Stored number)) = with_entry standing (entry_of standing e)
standing_after standing e (Some (Proposed number)) = with_entry standing (entry_of standing e)
standing_after standing e (Some (Already number)) = standing
standing_after standing e (Some (Pending number)) = standing
standing_after standing e (Some (Refused refusal)) = standing

-- How an edit is judged, whatever the disk does: the newest revisions of the desk write a consistent site, the answer is by how its
-- files stand, and they then stand as after the answer.
pub record IsJudgedBy {V : Type 0} (before after : Kept V) (e : Edit) (result : Result Done DeskError) : Type 0 where
  pub consistent : IsConsistent (site_in (standing before).newest)
  pub answers : AnswersBy (standing before) e result
  pub stand : standing after ≡ standing_after (standing before) e (told result)

-- The one commit of an edit: the rows of what there is to store of it, where it was answered as stored or as proposed; the same rows
-- may be there without an answer, if it could be stored; a repeat and a refused edit commit nothing.
abbrev pub CommitsOne : {V : Type 0} → Kept V → Edit → Option Answer → Database → Trees → Type 0
CommitsOne state e (Some (Stored number)) old trees = StoresIn (entry_rows (entry_of (standing state) e)) old trees
CommitsOne state e (Some (Proposed number)) old trees = StoresIn (entry_rows (entry_of (standing state) e)) old trees
CommitsOne state e (Some (Already number)) old trees = ⊥
CommitsOne state e (Some (Pending number)) old trees = ⊥
CommitsOne state e (Some (Refused refusal)) old trees = ⊥
CommitsOne state e None old trees =
    (first_case (standing state) e ≡ None) × IsConsistent (site_in (put (standing state).newest (revision_of e)))
    × StoresIn (entry_rows (entry_of (standing state) e)) old trees

-- an edit is answered by the history at which the desk stands, and the desk then stands at the history after it
pub record StepsOn {V : Type 0} (new : State) (after : Kept V) (e : Edit) (answer : Option Answer) (history pending : List Entry) : Type 0 where
  pub answered : IsAnswered history e answer
  pub stands : Stands new after (history ++ added_if (standing_of history) e answer) (pending_after pending (standing_of history) e answer)

-- the texts of an edit that are stored are UTF-8
pub record IsInUtf8 (e : Edit) : Type 0 where
  pub file : IsUtf8 e.file
  pub caller : IsUtf8 e.caller
  pub text : IsUtf8 e.text

-- a state has accepted an edit, as it is: the edit is answered as stored or proposed, and what was judged brings what is stored of it
pub record IsAccepted {V : Type 0} (in_force : V → Content) (state : Kept V) (e : Edit) (ready : Ready V) : Type 0 where
  pub answers : Answers (standing state) e (answer_of ready.entry)
  pub stored : ready.entry ≡ entry_of (standing state) e
  pub judged : IsJudged in_force state ready

-- an entry's rows were put into the tables, and a crash leaves them
pub record HasStored (rows : EntryRows) (old new : State) : Type 0 where
  pub live : IsTrue new.is_open
  pub stores : Stores rows old.committed new.committed
  pub leaves : LeavesCommit new

-- What an attempt to commit a change leaves. It is made, in one commit, and a crash leaves that; or there is an error, and the tables
-- are as before. A crash meanwhile leaves what it could before, or that commit.
pub record CommitsAtMost {T E : Type 0} (Change : Database → Database → Type 0) (old new : State) (result : Result T E) : Type 0 where
  -- no transaction is open, and a connection that is open was, and stands at its last commit
  pub autocommit : new.in_transaction ≡ false
  pub opened : HasCleanDisk new → IsTrue new.is_open → IsTrue old.is_open
  pub settled : HasCleanDisk new → IsTrue new.is_open → new.now ≡ new.committed
  -- the change is made, the connection is open, and a crash leaves the commit
  pub made : HasCleanDisk new → OnOk result (Change old.committed new.committed)
  pub live : HasCleanDisk new → OnOk result (IsTrue new.is_open)
  pub durable : HasCleanDisk new → OnOk result (LeavesCommit new)
  -- an error changed nothing
  pub unchanged : HasCleanDisk new → IsTrue new.is_open → OnErr result (new.committed ≡ old.committed)
  pub crash : Survives old new (λ trees. IsTrue old.is_open × LeadsTo Change old.committed trees)

-- an answer adds nothing
abbrev pub AddsNothing : {V : Type 0} → Kept V → Edit → Option Answer → Type 0
AddsNothing state e answer = added_if (standing state) e answer ≡ []

-- what is stored is a proposal
abbrev pub is_proposed : Entry → Bool
is_proposed (entry.Revised revision) = false
is_proposed (entry.Proposed proposal) = true

-- what an edit did to a desk, all together (each part is a clause of `edit`)
pub record IsEdited {V : Type 0} (old new : State) (before after : Kept V) (e : Edit) (result : Result Done DeskError) : Type 0 where
  pub judged : IsJudgedBy before after e result
  pub number : IfOk result (λ done. done.rev ≡ e.base + 1)
  pub step : HasCleanDisk new → (history pending : History) → Stands old before history pending → StepsOn new after e (told result) history pending
  pub unanswered : told result ≡ None → first_case (standing before) e ≡ None
  pub unchanged : AddsNothing before e (told result) → after ≡ before
  pub tables : HasCleanDisk new → IsTrue new.is_open → AddsNothing before e (told result) → new.committed ≡ old.committed
  pub schema : result ≢ Err error.Schema
  pub crash : Survives old new (CommitsOne before e (told result) old.committed)
  pub durable : HasCleanDisk new → (AddsNothing before e (told result) → ⊥) → HasStored (entry_rows (entry_of (standing before) e)) old new

-- the revision of a file with this number
abbrev pub revision_at : List Entry → List ℕ → ℕ → Option Revision
revision_at history file rev = find (λ r. r.rev == rev) (revisions_of file history)

-- a revision as it is handed out
abbrev pub stored_of : Option Revision → Option Found
stored_of found = option_map (λ r. record { author = r.author; approver = r.approver; profile = r.profile; body = r.body }) found

-- who signed a revision
abbrev pub signature_of : Revision → Signature
signature_of r = record { rev = r.rev; author = r.author; approver = r.approver; profile = r.profile }

-- the tables are as before, and a crash leaves what it could before
pub record LeavesTables (old new : State) : Type 0 where
  pub same : HasCleanDisk new → IsTrue new.is_open → new.committed ≡ old.committed
  pub crash : Survives old new (λ _. ⊥)

-- The words of a desk for the layers above, which know nothing of tables.
module _ {S V : Type 0} (g : Ghosts S) where
  -- nothing else has written its files, and the disk has returned what was written
  abbrev pub HasGoodDisk : Shown S V → Type 0
  HasGoodDisk d = HasCleanDisk (state g d.conn)

  abbrev pub StandsAt : Shown S V → History → History → Type 0
  StandsAt d history pending = Stands (state g d.conn) d.state history pending

  -- an edit is answered by the history at which the desk stood, and it stands at the history after it
  abbrev pub StepsTo : Shown S V → Edit → Option Answer → History → History → Type 0
  StepsTo d e answer history pending = StepsOn (state g d.conn) d.state e answer history pending

  -- a desk after a call that changes nothing
  abbrev pub StaysAsItWas : Shown S V → Shown S V → Type 0
  StaysAsItWas old new = Stays (state g old.conn) (state g new.conn) old.state new.state
