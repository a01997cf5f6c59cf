-- What a transaction comes to that is begun at rest, in which one step is run, and that is committed: the change that the step
-- makes is committed, or nothing is.
use Rattle.std.proofs.Common.{◌≡◌, ◌∙◌, sym, subst, inl, inr, false, [], IsTrue, Result, Ok, Err, arith}
use Rattle.std.specs.Prelude.{IfErr, OnOk}
use Rattle.std.proofs.lemmas.Bool.{both_ways}
use Rattle.sqlite.specs.Effect.{Database}
use Rattle.sqlite.specs.Tree.{Trees}
use Rattle.sqlite.specs.State.{HasCleanDisk, IsRolledBack, KeepsCounts, Shows, State, Survives}
use Rattle.sqlite.specs.Steps.{FailsToCommit}
use Rattle.sqlite.specs.declared.error.Error.{Error}
use Rattle.sqlite.proofs.StateLemmas.{survives_then}
use Rattle.desk_store.specs.Create.{RunsInside}
use Rattle.desk_store.specs.Desk.{CommitsAtMost}
use Rattle.desk_store.specs.Tables.{LeadsTo, LeavesCommit}

-- `old` is the connection at rest, `begun` the same with a transaction open, `end` what the step leaves, and `new` what the commit or the rollback does
module _ (old begun end new : State) (Change : Database → Database → Type 0) (Did : State → State → Type 0) (was_open : IsTrue begun.is_open → IsTrue old.is_open) (committed_is : begun.committed ≡ old.committed)
    (begins : (P : Trees → Type 0) → Survives begun new P → Survives old new P) where
  -- what is rolled back is as it was
  module _ {T : Type 0} (result : Result T Error) (step : RunsInside begun end result Did) (ended : new.in_transaction ≡ false) (back : HasCleanDisk new → IsRolledBack end new)
      (clean_then : HasCleanDisk new → HasCleanDisk end) where
    rolled_open : HasCleanDisk new → IsTrue new.is_open → IsTrue old.is_open
    rolled_open clean live = was_open ((step.kept (clean_then clean)).was_open ((back clean).was_open live))

    pub rolled_back : {U E : Type 0} (e : E) → Survives old new (λ trees. IsTrue old.is_open × LeadsTo Change old.committed trees) → CommitsAtMost {T = U} Change old new (Err e)
    rolled_back e crash = record {
      autocommit = ended;
      opened = rolled_open;
      settled = λ clean live. let it = (back clean).undone live in it.0 ∙ sym it.1;
      made = λ clean. tt;
      live = λ clean. tt;
      durable = λ clean. tt;
      unchanged = λ clean live. ((back clean).undone live).1 ∙ (step.kept (clean_then clean)).committed ((back clean).was_open live) ∙ committed_is;
      crash = crash;
    }

  -- the step was run, and its commit was tried
  module _ {T : Type 0} (x : T) (step : RunsInside begun end (Ok x) Did) (makes : HasCleanDisk end → IsTrue old.is_open → Did begun end → Change old.committed end.now) (ended : new.in_transaction ≡ false)
      (survives : Survives end new (λ trees. trees ≡ end.now.trees)) where
    early : HasCleanDisk new → HasCleanDisk end
    early clean = omega (arith, survives.clean)

    stood : HasCleanDisk end → IsTrue old.is_open
    stood clean = was_open (step.done clean).0.was_open

    changed : HasCleanDisk end → Change old.committed end.now
    changed clean = makes clean (stood clean) (step.done clean).1

    crash : Survives old new (λ trees. IsTrue old.is_open × LeadsTo Change old.committed trees)
    crash =
        begins _ (survives_then begun end new (λ _. ⊥) (λ trees. trees ≡ end.now.trees) (λ trees. IsTrue old.is_open × LeadsTo Change old.committed trees) (λ clean trees none. absurd none)
        (λ clean trees is. (stood (early clean), (end.now, changed (early clean), is))) step.crash survives)

    pub commit_made : {U E : Type 0} (y : U) → (HasCleanDisk new → Shows end new end.now end.now false) → (IsTrue new.is_open → LeavesCommit new) → CommitsAtMost {T = U} {E = E} Change old new (Ok y)
    commit_made y shows durable = record {
      autocommit = ended;
      opened = λ clean live. stood (early clean);
      settled = λ clean live. (shows clean).now_is ∙ sym (shows clean).committed_is;
      made = λ clean. subst (Change old.committed) (sym (shows clean).committed_is) (changed (early clean));
      live = λ clean. (shows clean).is_open;
      durable = λ clean. durable (shows clean).is_open;
      unchanged = λ clean live. tt;
      crash = crash;
    }

    -- A commit fails with a rollback, since a transaction is open.
    pub commit_failed : {U E : Type 0} (said : Error) (e : E) → (HasCleanDisk new → FailsToCommit end new said) → CommitsAtMost {T = U} Change old new (Err e)
    commit_failed said e fails = rolled_back (Ok x) step ended (λ clean. undone clean (fails clean)) early e crash
      where
        undone : HasCleanDisk new → FailsToCommit end new said → IsRolledBack end new
        undone clean (inl failed) = failed.3
        undone clean (inr other) = absurd (both_ways _ other.1 (step.done (early clean)).0.mode)

    -- whichever it was, as a commit answers
    pub commit_tried : {U : Type 0} (result : Result U Error) → (HasCleanDisk new → OnOk result (IsTrue end.in_transaction × Shows end new end.now end.now false × KeepsCounts end new × (new.marks ≡ [])))
        → (HasCleanDisk new → IfErr result (FailsToCommit end new)) → (IsTrue new.is_open → LeavesCommit new) → CommitsAtMost Change old new result
    commit_tried (Ok y) made fails durable = commit_made y (λ clean. (made clean).1) durable
    commit_tried (Err e) made fails durable = commit_failed e e fails
