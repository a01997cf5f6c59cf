-- What SQLite said in a step of a call it said in the call.
use Rattle.std.proofs.Common.{◌≡◌, refl, sym, subst, true, [], ◌∷◌, Option, Some, None, Result, Ok, Err, IsTrue, arith}
use Rattle.std.specs.Prelude.{Contains, IfErr, option_map}
use Rattle.std.specs.List.{cons_option}
use Rattle.sqlite_trees.specs.declared.store.Store.{Ghosts}
use Rattle.sqlite.specs.Held.{Held, state}
use Rattle.sqlite.specs.State.{HasCleanDisk, State, Survives}
use Rattle.sqlite.specs.declared.error.Error.{Error}
use Rattle.sqlite.specs.declared.types.Value.TheVariants.{Text as Words}
use Rattle.sqlite.proofs.StateLemmas.{survives_then}
use Rattle.sqlite.proofs.Callers.{survives_begin}
use Rattle.sqlite.specs.Steps.{FailsToCommit}
use Rattle.sqlite.specs.Tree.{Trees}
use Rattle.desk_core.specs.declared.entry.Entry.{Entry}
use Rattle.desk_core.specs.declared.entry.Entry.TheVariants.{Revised, Proposed}
use Rattle.desk_core.specs.declared.head.Head.{Head}
use Rattle.desk_core.specs.declared.proposal.Proposal.{Proposal}
use Rattle.desk_store.specs.Create.{RunsInside}
use Rattle.desk_store.specs.Error.{AnswersError, Commit, FailsAsSaid, IsSaid, Statement, Step}
use Rattle.desk_store.specs.History.{approval_of, proposed_row, row_of}
use Rattle.desk_store.specs.Storing.{statements_of}
use Rattle.desk_store.specs.Tables.{delete_proposal, insert_approval, insert_proposal, insert_revision}
use Rattle.desk_store.proofs.Inside.{same_survives}

pub both : (a b c : State) → Survives a b (λ _. ⊥) → Survives b c (λ _. ⊥) → Survives a c (λ _. ⊥)
both a b c one two = survives_then a b c (λ _. ⊥) (λ _. ⊥) (λ _. ⊥) (λ _ trees none. none) (λ _ trees none. none) one two

module _ {S : Type 0} (g : Ghosts S) where
  -- one statement, and nothing else
  pub said_now : (Own : Statement → Type 0) (old new : Held S) (s : Statement) (e : Error) → Own s → AnswersError s (state g old) (state g new) e → IsSaid g Own old new e
  said_now Own old new s e own answered = record {
    before = old;
    after = new;
    statement = s;
    own = own;
    reaches = same_survives (state g old);
    answered = answered;
    leaves = same_survives (state g new);
  }

  -- in a step of a call
  pub said_in : (Own Wide : Statement → Type 0) → ((s : Statement) → Own s → Wide s) → (old begun end new : Held S) (e : Error)
      → Survives (state g old) (state g begun) (λ _. ⊥) → IsSaid g Own begun end e → Survives (state g end) (state g new) (λ _. ⊥) → IsSaid g Wide old new e
  said_in Own Wide wide old begun end new e before said after = record {
    before = said.before;
    after = said.after;
    statement = said.statement;
    own = wide said.statement said.own;
    reaches = both (state g old) (state g begun) (state g said.before) before said.reaches;
    answered = said.answered;
    leaves = both (state g said.after) (state g end) (state g new) said.leaves after;
  }

  pub said_widely : (Own Wide : Statement → Type 0) → ((s : Statement) → Own s → Wide s) → (old new : Held S) (e : Error) → IsSaid g Own old new e → IsSaid g Wide old new e
  said_widely Own Wide wide old new e said = said_in Own Wide wide old old new new e (same_survives (state g old)) said (same_survives (state g new))

  -- the last step of a call, which answers as it does
  pub fails_last : {T : Type 0} (Own Wide : Statement → Type 0) → ((s : Statement) → Own s → Wide s) → (old begun new : Held S) (result : Result T Error)
      → Survives (state g old) (state g begun) (λ _. ⊥) → IfErr result (IsSaid g Own begun new) → IfErr result (IsSaid g Wide old new)
  fails_last Own Wide wide old begun new (Ok x) before said = tt
  fails_last Own Wide wide old begun new (Err e) before said = said_in Own Wide wide old begun new new e before said (same_survives (state g new))

  -- a transaction is begun at rest, its one step fails, and it is rolled back
  pub step_failed : (Own : Statement → Type 0) (old begun end new : Held S) (e : Error) → begun ≡ record old { in_transaction = true }
      → (IsTrue (state g begun).in_transaction → HasCleanDisk (state g end) → IsSaid g Own begun end e) → Survives (state g end) (state g new) (λ _. ⊥) → HasCleanDisk (state g new) → IsSaid g Own old new e
  step_failed Own old begun end new e is said back clean =
      let start : Held S = record old { in_transaction = true } in
      let early : HasCleanDisk (state g end) = omega (arith, clean, back.clean) in
      let inside = subst (λ (conn : Held S). IsTrue (state g conn).in_transaction → HasCleanDisk (state g end) → IsSaid g Own conn end e) is said in
      said_in Own Own (λ s own. own) old start end new e (survives_begin g old (state g start) (λ _. ⊥) (same_survives (state g start))) (inside refl early) back

  -- its one step is run, and its commit answers as it does
  pub commit_said : {T U : Type 0} (Own : Statement → Type 0) → Own Commit → (old begun end new : Held S) (x : T) (Did : State → State → Type 0) (P : Trees → Type 0) → begun ≡ record old { in_transaction = true }
      → RunsInside (state g begun) (state g end) (Ok x) Did → Survives (state g end) (state g new) P
      → (result : Result U Error) → (HasCleanDisk (state g new) → IfErr result (FailsToCommit (state g end) (state g new))) → FailsAsSaid g Own old new result
  commit_said Own own old begun end new x Did P is step survives (Ok y) fails clean = tt
  commit_said Own own old begun end new x Did P is step survives (Err e) fails clean =
      let early : HasCleanDisk (state g end) = omega (arith, clean, survives.clean) in
      let ran = subst (λ (conn : Held S). RunsInside (state g conn) (state g end) (Ok x) Did) is step in
      record {
        before = end;
        after = new;
        statement = Commit;
        own = own;
        reaches = survives_begin g old (state g end) (λ _. ⊥) ran.crash;
        answered = ((ran.done early).0.mode, fails clean);
        leaves = same_survives (state g new);
      }

-- ---- the statements that store an entry

own_approval : (a b : Statement) (o : Option Statement) (s : Statement) → o ≡ Some s → Contains (a ∷ b ∷ cons_option o (Commit ∷ [])) s
own_approval a b None s is = absurd (cc)
own_approval a b (Some x) s is = let same : x ≡ s = cc in (2, omega arith, same)

own_commit : (a b : Statement) (o : Option Statement) → Contains (a ∷ b ∷ cons_option o (Commit ∷ [])) Commit
own_commit a b None = (2, omega arith, refl)
own_commit a b (Some x) = (3, omega arith, refl)

pub of_approval : (r : Head) (s : Statement) → option_map (Step insert_approval) (approval_of r) ≡ Some s → Contains (statements_of (Revised r)) s
of_approval r s is = own_approval (Step delete_proposal (Words r.file ∷ [])) (Step insert_revision (row_of r)) (option_map (Step insert_approval) (approval_of r)) s is

pub of_commit : (stored : Entry) → Contains (statements_of stored) Commit
of_commit (Revised r) = own_commit (Step delete_proposal (Words r.file ∷ [])) (Step insert_revision (row_of r)) (option_map (Step insert_approval) (approval_of r))
of_commit (Proposed p) = (2, omega arith, refl)

pub of_delete : (r : Head) (s : Statement) → s ≡ Step delete_proposal (Words r.file ∷ []) → Contains (statements_of (Revised r)) s
of_delete r s is = (0, omega arith, sym is)

pub of_insert : (r : Head) (s : Statement) → s ≡ Step insert_revision (row_of r) → Contains (statements_of (Revised r)) s
of_insert r s is = (1, omega arith, sym is)

pub of_delete_first : (p : Proposal) (s : Statement) → s ≡ Step delete_proposal (Words p.file ∷ []) → Contains (statements_of (Proposed p)) s
of_delete_first p s is = (0, omega arith, sym is)

pub of_proposal : (p : Proposal) (s : Statement) → s ≡ Step insert_proposal (proposed_row p) → Contains (statements_of (Proposed p)) s
of_proposal p s is = (1, omega arith, sym is)
