-- What an edit does to a desk, by what became of it.
use Rattle.std.proofs.Common.{◌≡◌, ◌≢◌, ◌∙◌, sym, ap, subst, refl, inl, inr, ℕ, ◌+◌, ◌≤◌, ◌++◌, Bool, true, false, cond, List, [], ◌∷◌, Option, Some, None, Ok, Err, IfOk, IsTrue, arith, append-nil, codes}
use Rattle.std.specs.Prelude.{Result}
use Rattle.std.proofs.lemmas.Bool.{false≢true}
use Rattle.std.proofs.lemmas.List.Elements.{Contains-append_left, Contains-append_right}
use Rattle.sqlite.specs.Effect.{Database}
use Rattle.sqlite.specs.State.{HasCleanDisk, State, Survives}
use Rattle.sqlite.specs.Tree.{Trees}
use Rattle.desk_policy.specs.Policy.{Content}
use Rattle.desk_policy.specs.Site.{SiteTexts}
use Rattle.desk_tables.specs.declared.filesystems.Mount.{Mount}
use Rattle.desk_core.specs.Edit.{Already, Answer, Edit, Pending, Proposed, Refused, Stored, revision_of}
use Rattle.desk_core.specs.Head.{Revision, last_revision, put}
use Rattle.desk_core.specs.History.{IsAnswered, added_by, added_if, standing_of}
use Rattle.desk_core.specs.Judging.{Answers, AnswersBySite, AnswersIn, answer_in, answer_of, approved, entry_by, entry_of, first_case, guarded_entry, is_guarded_file}
use Rattle.desk_core.specs.Laws.{StandingOfALongerHistory}
use Rattle.desk_core.specs.Site.{IsConsistent, site_in}
use Rattle.desk_core.specs.Standing.{Standing, with_entry}
use Rattle.desk_core.specs.State.{PutsEntry, again, standing}
use Rattle.desk_core.specs.Views.{Kept, Ready}
use Rattle.desk_core.specs.declared.entry.Entry.{Entry}
use Rattle.desk_core.specs.declared.entry.Entry.TheVariants as entry
use Rattle.desk_core.specs.declared.judging.Case.{Case}
use Rattle.desk_core.specs.declared.judging.Case.TheVariants as case
use Rattle.desk_core.specs.declared.proposal.Proposal.{Proposal}
use Rattle.desk_schema.specs.Tables.{HasTables}
use Rattle.desk_store.specs.Tables.{IsAtRest, IsKeyed, LeadsTo, LeavesCommit, Stores, StoresIn}
use Rattle.desk_store.specs.History.{Holds, entry_rows}
use Rattle.desk_store.specs.Desk.{AnswersBy, CommitsAtMost, CommitsOne, HasStored, IsAccepted, IsDesk, IsEdited, IsInUtf8, IsSiteHistory, Stands, StepsOn, is_proposed, pending_after, standing_after, told}
use Rattle.desk_store.specs.Laws.{AnsweredEditsKeepSiteHistories}
use Rattle.desk_store.specs.Rows.{IsOfEdit, IsOfTask}
use Rattle.desk_store.specs.declared.desk.Done.{Done}
use Rattle.desk_store.specs.declared.error.DeskError.{DeskError}
use Rattle.desk_store.specs.declared.error.DeskError.TheVariants as error
use Rattle.desk_store.specs.declared.error.StoreFault.{StoreFault}
use Rattle.desk_store.specs.declared.error.Task.TheVariants as task
use Rattle.desk_store.proofs.HistoryStep.{holds_more}

abbrev Answered : Type 0
Answered = Result Done DeskError

-- ---- where nothing is stored

survives_itself : (s : State) (Commits : Trees → Type 0) → Survives s s Commits
survives_itself s Commits = record { clean = omega arith; shield = λ h. h; counts = omega arith; limit = refl; closes = λ clean live. inl live; crash = λ clean trees may. inl may }

-- what an answer adds to a history, by how its files stand
abbrev IsAnsweredBy : Standing → Edit → Option Answer → Type 0
IsAnsweredBy st e None = Unit {0}
IsAnsweredBy st e (Some answer) = Answers st e answer

answered_at : (history : List Entry) (st : Standing) (e : Edit) (answer : Option Answer) → st ≡ standing_of history → IsAnsweredBy st e answer → IsAnswered history e answer
answered_at history st e None same h = tt
answered_at history st e (Some answer) same h = subst (λ s. Answers s e answer) same h

steps : {V : Type 0} (new : State) (after : Kept V) (e : Edit) (answer : Option Answer) (history pending : List Entry) (st : Standing) → st ≡ standing_of history → IsAnsweredBy st e answer
    → Stands new after (history ++ added_if st e answer) (pending_after pending st e answer) → StepsOn new after e answer history pending
steps new after e answer history pending st same h stands = record {
  answered = answered_at history st e answer same h;
  stands = subst (λ s. Stands new after (history ++ added_if s e answer) (pending_after pending s e answer)) same stands;
}

module _ {V : Type 0} (s : State) (state : Kept V) (history pending : List Entry) (stands : Stands s state history pending) where
  same_history : Stands s state (history ++ []) pending
  same_history = subst (λ h. Stands s state h pending) (sym (append-nil history)) stands

  -- an entry more may be pending
  more_pending : (stored : Entry) → Stands s state (history ++ []) (pending ++ stored ∷ [])
  more_pending stored =
      let P : List Entry → Type 0 = λ h. Stands s state h (pending ++ stored ∷ []) in
      subst P (sym (append-nil history)) (record {
        stored = stands.stored;
        standing_is = stands.standing_is;
        tables = stands.tables;
        leaves = λ trees may.
            let left = stands.leaves trees may in (
              left.0,
              left.1,
              left.2,
              elim left.3 [
                | inl holds ↦ inl holds
                | inr more ↦ inr (more.0, Contains-append_left pending (stored ∷ []) more.0 more.1, more.2, more.3)
              ],
            );
      })

-- a repeat, stored or proposed, is answered with the number after the base
abbrev number_told : ℕ → Answer → ℕ
number_told other (Stored number) = number
number_told other (Proposed number) = number
number_told other (Already number) = number
number_told other (Pending number) = number
number_told other (Refused refusal) = other

case_number : (newest : Option Revision) (e : Edit) (first : Case) → number_told (e.base + 1) (answer_in newest e first) ≡ e.base + 1
case_number newest e (case.Refused refused) = refl
case_number newest e case.Already = refl
case_number newest e case.Pending = refl

again_number : (st : Standing) (e : Edit) (number : ℕ) (proposed : Bool) (first : Option Case) → AnswersIn first st e (again number proposed) → number ≡ e.base + 1
again_number st e number true None h = absurd h
again_number st e number false None h = absurd h
again_number st e number true (Some first) h = ap (number_told (e.base + 1)) h ∙ case_number (st.newest e.file) e first
again_number st e number false (Some first) h = ap (number_told (e.base + 1)) h ∙ case_number (st.newest e.file) e first

module _ {V : Type 0} (s : State) (state : Kept V) (e : Edit) (sound : IsConsistent (site_in (standing state).newest)) where
  abbrev Stepping : Option Answer → Type 0
  Stepping t = (history pending : List Entry) → Stands s state history pending → StepsOn s state e t history pending

  edited_same : (result : Answered) → AnswersBy (standing state) e result → IfOk result (λ done. done.rev ≡ e.base + 1) → result ≢ Err error.Schema → (told result ≡ None → first_case (standing state) e ≡ None)
      → standing state ≡ standing_after (standing state) e (told result) → (added_if (standing state) e (told result) ≡ []) → Stepping (told result) → IsEdited s s state state e result
  edited_same result answers number other unanswered stand nothing step = record {
    judged = record { consistent = sound; answers = answers; stand = stand };
    number = number;
    step = λ clean. step;
    unanswered = unanswered;
    unchanged = λ _. refl;
    tables = λ clean live _. refl;
    schema = other;
    crash = survives_itself s _;
    durable = λ clean more. absurd (more nothing);
  }

  pub edited_already : (rev : ℕ) (proposed : Bool) → Answers (standing state) e (again rev proposed) → IsEdited s s state state e (Ok (record { rev = rev; already = true; proposed = proposed }))
  edited_already rev true h =
      edited_same (Ok (record { rev = rev; already = true; proposed = true })) h (again_number (standing state) e rev true (first_case (standing state) e) h) (λ is. cc) (λ none. absurd (let e = none in cc)) refl refl
      (λ history pending stands. steps s state e (Some (Pending rev)) history pending (standing state) stands.standing_is h (same_history s state history pending stands))
  edited_already rev false h =
      edited_same (Ok (record { rev = rev; already = true; proposed = false })) h (again_number (standing state) e rev false (first_case (standing state) e) h) (λ is. cc) (λ none. absurd (let e = none in cc)) refl refl
      (λ history pending stands. steps s state e (Some (Already rev)) history pending (standing state) stands.standing_is h (same_history s state history pending stands))

  pub edited_memory : first_case (standing state) e ≡ None → IsEdited s s state state e (Err error.Memory)
  edited_memory h =
      edited_same (Err error.Memory) h tt (λ is. cc) (λ _. h) refl refl
      (λ history pending stands. steps s state e None history pending (standing state) stands.standing_is tt (more_pending s state history pending stands (entry_of (standing state) e)))

-- ---- where an entry is stored

-- the answer to what is stored is none of those in a case
abbrev is_accepted : Answer → Bool
is_accepted (Stored number) = true
is_accepted (Proposed number) = true
is_accepted (Already number) = false
is_accepted (Pending number) = false
is_accepted (Refused refusal) = false

case_refuses : (newest : Option Revision) (e : Edit) (first : Case) → is_accepted (answer_in newest e first) ≡ false
case_refuses newest e (case.Refused refused) = refl
case_refuses newest e case.Already = refl
case_refuses newest e case.Pending = refl

entry_accepted : (stored : Entry) → is_accepted (answer_of stored) ≡ true
entry_accepted (entry.Revised r) = refl
entry_accepted (entry.Proposed p) = refl

site_consistent : (site : SiteTexts) (own stored : Entry) → AnswersBySite site own (answer_of stored) → IsConsistent site
site_consistent site own (entry.Revised r) h = h.1
site_consistent site own (entry.Proposed p) h = h.1

-- so no case holds, and the site is consistent
no_case : (st : Standing) (e : Edit) (stored : Entry) (first : Option Case) → AnswersIn first st e (answer_of stored) → (first ≡ None) × IsConsistent (site_in (put st.newest (revision_of e)))
no_case st e stored None h = (refl, site_consistent (site_in (put st.newest (revision_of e))) (entry_of st e) stored h)
no_case st e stored (Some first) h =
    absurd (false≢true (sym (case_refuses (st.newest e.file) e first) ∙ ap is_accepted (sym h) ∙ entry_accepted stored))

-- what is stored of an edit is answered so
abbrev stored_answer : ℕ → Bool → Answer
stored_answer number proposed = cond proposed (Proposed number) (Stored number)

guarded_answer : (e : Edit) (o : Option Proposal) → answer_of (guarded_entry e o) ≡ stored_answer (e.base + 1) (is_proposed (guarded_entry e o))
guarded_answer e None = refl
guarded_answer e (Some p) = refl

either_answer : (b : Bool) (e : Edit) (own : Entry) → answer_of own ≡ stored_answer (e.base + 1) (is_proposed own)
    → answer_of (cond b own (entry.Revised (revision_of e))) ≡ stored_answer (e.base + 1) (is_proposed (cond b own (entry.Revised (revision_of e))))
either_answer true e own h = h
either_answer false e own h = refl

entry_answer : (table : List Mount) (e : Edit) (o : Option Proposal) → answer_of (entry_by table e o) ≡ stored_answer (e.base + 1) (is_proposed (entry_by table e o))
entry_answer table e o = either_answer (is_guarded_file table e.file) e (guarded_entry e (approved table e o)) (guarded_answer e (approved table e o))

added_one : (st : Standing) (e : Edit) (stored : Entry) → added_by st e (answer_of stored) ≡ entry_of st e ∷ []
added_one st e (entry.Revised r) = refl
added_one st e (entry.Proposed p) = refl

module _ {V : Type 0} (longer : StandingOfALongerHistory) (keeps : AnsweredEditsKeepSiteHistories) (old new : State) (before after : Kept V) (e : Edit) (sound : IsConsistent (site_in (standing before).newest))
    (accepted : Answers (standing before) e (answer_of (entry_of (standing before) e))) (utf8 : IsInUtf8 e) where
  abbrev st : Standing
  st = standing before

  abbrev stored : Entry
  stored = entry_of st e

  abbrev Change : Database → Database → Type 0
  Change = Stores (entry_rows stored)

  -- a crash may leave the commit
  abbrev Survived : Type 0
  Survived = Survives old new (λ trees. IsTrue old.is_open × LeadsTo Change old.committed trees)

  none : first_case st e ≡ None
  none = (no_case st e stored (first_case st e) accepted).0

  consistent : IsConsistent (site_in (put st.newest (revision_of e)))
  consistent = (no_case st e stored (first_case st e) accepted).1

  next : (history pending : List Entry) → Stands old before history pending → IsSiteHistory (history ++ stored ∷ [])
  next history pending stands =
      let at = stands.standing_is in
      let kept = keeps history e (answer_of stored) stands.stored (subst (λ s. Answers s e (answer_of stored)) at accepted) utf8 in
      subst (λ more. IsSiteHistory (history ++ more)) (added_one (standing_of history) e stored ∙ ap (λ s. entry_of s e ∷ []) (sym at)) kept

  -- the statement was refused
  stands_yet : (IsTrue new.is_open → IsTrue old.is_open) → (IsTrue new.is_open → new.committed ≡ old.committed) → Survived → HasCleanDisk new
      → (history pending : List Entry) → Stands old before history pending → Stands new before (history ++ []) (pending ++ stored ∷ [])
  stands_yet opened same crash clean history pending stands =
      let site = next history pending stands in
      let P : List Entry → Type 0 = λ h. Stands new before h (pending ++ stored ∷ []) in
      subst P (sym (append-nil history)) (record {
        stored = stands.stored;
        standing_is = stands.standing_is;
        tables = λ live. subst (λ (db : Database). Holds db history) (sym (same live)) (stands.tables (opened live));
        leaves = λ trees may. elim (crash.crash clean trees may) [
          | inl as_before ↦
              let left = stands.leaves trees as_before in (
                left.0,
                left.1,
                left.2,
                elim left.3 [
                  | inl holds ↦ inl holds
                  | inr more ↦ inr (more.0, Contains-append_left pending (stored ∷ []) more.0 more.1, more.2, more.3)
                ],
              )
          | inr adds ↦ (
            adds.1.0,
            adds.1.1.sound,
            adds.1.2,
            inr (stored, Contains-append_right pending (stored ∷ []) stored (0, omega arith, refl), holds_more old.committed adds.1.0 history stored (stands.tables adds.0) site.numbered adds.1.1, site),
          )
        ];
      })

  -- the entry was stored, and the state is that with it
  stands_on : IsTrue old.is_open → Change old.committed new.committed → LeavesCommit new → standing after ≡ with_entry st stored
      → (history pending : List Entry) → Stands old before history pending → Stands new after (history ++ stored ∷ []) []
  stands_on open_before stores durable stand history pending stands =
      let site = next history pending stands in
      let holds = holds_more old.committed new.committed history stored (stands.tables open_before) site.numbered stores in
      record {
        stored = site;
        standing_is = stand ∙ ap (λ s. with_entry s stored) stands.standing_is ∙ sym (longer history stored);
        tables = λ _. holds;
        leaves = λ trees may. (new.committed, stores.sound, durable trees may, inl holds);
      }

  -- what is committed without an answer, or with it
  commits : (t : Option Answer) → ((trees : Trees) → StoresIn (entry_rows stored) old.committed trees → CommitsOne before e t old.committed trees) → Survived → Survives old new (CommitsOne before e t old.committed)
  commits t may crash = record {
    clean = crash.clean;
    shield = crash.shield;
    counts = crash.counts;
    limit = crash.limit;
    closes = crash.closes;
    crash = λ clean trees left. elim (crash.crash clean trees left) [ inl as_before ↦ inl as_before | inr adds ↦ inr (may trees adds.1) ];
  }

  edited_untold : (failure : DeskError) → AnswersBy st e (Err failure) → told (Err failure) ≡ None → ◌≢◌ {A = Answered} (Err failure) (Err error.Schema)
      → (HasCleanDisk new → IsTrue new.is_open → IsTrue old.is_open) → (HasCleanDisk new → IsTrue new.is_open → new.committed ≡ old.committed) → Survived → IsEdited old new before before e (Err failure)
  edited_untold failure answers untold other opened same crash = record {
    judged = record { consistent = sound; answers = answers; stand = ap (standing_after st e) (sym untold) };
    number = tt;
    step = λ clean history pending stands.
        let Q : Option Answer → Type 0 = λ t. StepsOn new before e t history pending in
        subst Q (sym untold) (steps new before e None history pending st stands.standing_is tt (stands_yet (opened clean) (same clean) crash clean history pending stands));
    unanswered = λ _. none;
    unchanged = λ _. refl;
    tables = λ clean live _. same clean live;
    schema = other;
    crash = let Q : Option Answer → Type 0 = λ t. Survives old new (CommitsOne before e t old.committed) in subst Q (sym untold) (commits None (λ trees stores. (none, consistent, stores)) crash);
    durable = λ clean more. absurd (more (ap (added_if st e) untold));
  }

  not_memory : ◌≡◌ {A = Answered} (Err error.Memory) (Err error.Schema) → ⊥
  not_memory is = cc

  not_store : (fault : StoreFault) → ◌≡◌ {A = Answered} (Err (error.Store fault)) (Err error.Schema) → ⊥
  not_store fault is = cc

  pub edited_not : (failure : DeskError) → IsOfTask task.AddEntry failure
      → (HasCleanDisk new → IsTrue new.is_open → IsTrue old.is_open) → (HasCleanDisk new → IsTrue new.is_open → new.committed ≡ old.committed) → Survived → IsEdited old new before before e (Err failure)
  edited_not failure (inl memory) opened same crash =
      let P : DeskError → Type 0 = λ f. IsEdited old new before before e (Err f) in
      subst P (sym memory) (edited_untold error.Memory none refl not_memory opened same crash)
  edited_not failure (inr store) opened same crash =
      let P : DeskError → Type 0 = λ f. IsEdited old new before before e (Err f) in
      subst P (sym store.2) (edited_untold (error.Store store.0) accepted refl (not_store store.0) opened same crash)

  abbrev done : Bool → Done
  done proposed = record { rev = e.base + 1; already = false; proposed = proposed }

  abbrev answer : Bool → Option Answer
  answer proposed = Some (stored_answer (e.base + 1) proposed)

  stand_told : (b : Bool) → standing_after st e (answer b) ≡ with_entry st stored
  stand_told true = refl
  stand_told false = refl

  stands_told : (b : Bool) (history pending : List Entry) → Stands new after (history ++ stored ∷ []) [] → Stands new after (history ++ added_if st e (answer b)) (pending_after pending st e (answer b))
  stands_told true history pending h = h
  stands_told false history pending h = h

  added_told : (b : Bool) → added_if st e (answer b) ≡ stored ∷ []
  added_told true = refl
  added_told false = refl

  adds_some : (b : Bool) → added_if st e (answer b) ≡ [] → ⊥
  adds_some b nothing = let e : stored ∷ [] ≡ [] = sym (added_told b) ∙ nothing in cc

  commits_told : (b : Bool) (trees : Trees) → StoresIn (entry_rows stored) old.committed trees → CommitsOne before e (answer b) old.committed trees
  commits_told true trees h = h
  commits_told false trees h = h

  pub edited_stored : (proposed : Bool) → proposed ≡ is_proposed stored → (HasCleanDisk new → IsTrue old.is_open × HasStored (entry_rows stored) old new) → standing after ≡ with_entry st stored → Survived
      → IsEdited old new before after e (Ok (done proposed))
  edited_stored proposed is did stand crash =
      let answers : Answers st e (stored_answer (e.base + 1) proposed) =
      subst (Answers st e) (entry_answer _ e (st.proposals e.file) ∙ ap (stored_answer (e.base + 1)) (sym is)) accepted in
      record {
        judged = record { consistent = sound; answers = answers; stand = stand ∙ sym (stand_told proposed) };
        number = refl;
        step = λ clean history pending stands.
            steps new after e (answer proposed) history pending st stands.standing_is answers
            (stands_told proposed history pending (stands_on (did clean).0 (did clean).1.stores (did clean).1.leaves stand history pending stands));
        unanswered = λ untold. absurd (let e = untold in cc);
        unchanged = λ nothing. absurd (adds_some proposed nothing);
        tables = λ clean live nothing. absurd (adds_some proposed nothing);
        schema = λ is. absurd (let e = is in cc);
        crash = commits (answer proposed) (commits_told proposed) crash;
        durable = λ clean _. (did clean).1;
      }

-- a refused statement is one that an edit may answer
pub of_edit : (failure : DeskError) → IsOfTask task.AddEntry failure → IsOfEdit failure
of_edit failure (inl memory) = subst IsOfEdit (sym memory) tt
of_edit failure (inr store) = subst IsOfEdit (sym store.2) store.1

-- ---- the number of an edit that is accepted is low

told_number : (number : ℕ) (proposed : Bool) → number_told 0 (stored_answer number proposed) ≡ number
told_number number true = refl
told_number number false = refl

puts_low : {V : Type 0} (in_force : V → Content) (state : Kept V) (ready : Ready V) (stored : Entry) → PutsEntry in_force state ready stored → number_told 0 (answer_of stored) ≤ last_revision + 1
puts_low in_force state ready (entry.Revised r) puts = let low : r.rev ≤ last_revision = puts.can_be_kept.to in omega (arith, low)
puts_low in_force state ready (entry.Proposed p) puts = let low : p.base ≤ last_revision = puts in omega (arith, low)

pub base_low : {V : Type 0} (in_force : V → Content) (state : Kept V) (e : Edit) (ready : Ready V) → IsAccepted in_force state e ready → e.base ≤ last_revision
base_low in_force state e ready accepted =
    let low = puts_low in_force state ready ready.entry accepted.judged.puts in
    let is : answer_of ready.entry ≡ stored_answer (e.base + 1) (is_proposed (entry_of (standing state) e)) = ap answer_of accepted.stored ∙ entry_answer _ e ((standing state).proposals e.file) in
    let number = ap (number_told 0) is ∙ told_number (e.base + 1) (is_proposed (entry_of (standing state) e)) in
    omega (arith, low, number)

-- ---- by what the statement answered
module _ {V : Type 0} (longer : StandingOfALongerHistory) (keeps : AnsweredEditsKeepSiteHistories) (in_force : V → Content) (old new : State) (before after : Kept V) (e : Edit) (ready : Ready V)
    (sound : IsConsistent (site_in (standing before).newest)) (accepted : IsAccepted in_force before e ready) (utf8 : IsInUtf8 e) where
  answers : Answers (standing before) e (answer_of (entry_of (standing before) e))
  answers = subst (λ stored. Answers (standing before) e (answer_of stored)) accepted.stored accepted.answers

  pub edit_failed : {T E : Type 0} {said : E} → (failure : DeskError) → IsOfTask task.AddEntry failure → CommitsAtMost {T = T} (Stores (entry_rows ready.entry)) old new (Err said) → IsEdited old new before before e (Err failure)
  edit_failed {T} {E} {said} failure which may =
      let it = subst (λ stored. CommitsAtMost {T = T} {E = E} (Stores (entry_rows stored)) old new (Err said)) accepted.stored may in
      edited_not longer keeps old new before after e sound answers utf8 failure which it.opened it.unchanged it.crash

  pub edit_stored : {T E : Type 0} {x : T} → (proposed : Bool) → proposed ≡ is_proposed ready.entry → CommitsAtMost {E = E} (Stores (entry_rows ready.entry)) old new (Ok x)
      → standing after ≡ with_entry (standing before) ready.entry → IsEdited old new before after e (Ok (record { rev = e.base + 1; already = false; proposed = proposed }))
  edit_stored {T} {E} {x} proposed is may stand =
      let it = subst (λ stored. CommitsAtMost {T = T} {E = E} (Stores (entry_rows stored)) old new (Ok x)) accepted.stored may in
      edited_stored longer keeps old new before after e sound answers utf8 proposed (is ∙ ap is_proposed accepted.stored)
      (λ clean. (it.opened clean (it.live clean), record { live = it.live clean; stores = it.made clean; leaves = it.durable clean })) (stand ∙ ap (with_entry (standing before)) accepted.stored) it.crash

-- ---- a desk that was edited is a desk

pub desk_after : {V : Type 0} (old new : State) (before after : Kept V) (e : Edit) (result : Answered) → IsEdited old new before after e result
    → (HasCleanDisk old → IsDesk old before) → (HasCleanDisk new → IsDesk old before → IsAtRest new × (IsTrue new.is_open → IsKeyed new.committed (codes "proposal"))) → HasCleanDisk new → IsDesk new after
desk_after old new before after e result edited desk rest clean =
    let start : HasCleanDisk old = omega (arith, clean, edited.crash.clean) in
    let d = desk start in
    let on = edited.step clean d.history d.pending d.stands in
    let kept = rest clean d in
    record { rest = kept.0; keyed = kept.1; history = _; pending = _; stands = on.stands }

-- what a commit leaves at rest
module _ {V : Type 0} (old new : State) (before : Kept V) (stored : Entry) where
  pub rest_failed : {T E : Type 0} {said : E} → CommitsAtMost {T = T} (Stores (entry_rows stored)) old new (Err said) → HasCleanDisk new → IsDesk old before
      → IsAtRest new × (IsTrue new.is_open → IsKeyed new.committed (codes "proposal"))
  rest_failed may clean d = (
    record {
      autocommit = may.autocommit;
      settled = may.settled clean;
      tables = λ live. subst (λ (db : Database). HasTables db.schema) (sym (may.unchanged clean live)) (d.rest.tables (may.opened clean live));
    },
    λ live. subst (λ (db : Database). IsKeyed db (codes "proposal")) (sym (may.unchanged clean live)) (d.keyed (may.opened clean live)),
  )

  pub rest_stored : {T E : Type 0} {x : T} → CommitsAtMost {E = E} (Stores (entry_rows stored)) old new (Ok x) → HasCleanDisk new → IsDesk old before
      → IsAtRest new × (IsTrue new.is_open → IsKeyed new.committed (codes "proposal"))
  rest_stored may clean d =
      let made = may.made clean in (
        record { autocommit = may.autocommit; settled = may.settled clean; tables = λ live. subst HasTables (sym made.schema) (d.rest.tables (may.opened clean live)) },
        λ live. made.keyed (d.keyed (may.opened clean live)),
      )
