-- A statement that only looked changes nothing, and nor do two such statements, one after the other.
use Rattle.std.proofs.Common.{◌≡◌, ◌⊎◌, inl, inr, Bool, ℕ, List, false, IsTrue, sym, subst, ◌∙◌, arith}
use Rattle.sqlite.specs.Effect.{Database}
use Rattle.sqlite.specs.Order.{Row}
use Rattle.sqlite.specs.State.{ExecutesIn, HasCleanDisk, IsNotRun, IsRolledBack, IsUnchanged, State, Survives}
use Rattle.sqlite.specs.declared.error.Error.{Error}
use Rattle.sqlite.proofs.InsideLemmas.{fails_whole}
use Rattle.sqlite.proofs.StateLemmas.{survives_then}
use Rattle.desk_store.specs.Looks.{ChangesNothing}
use Rattle.desk_schema.specs.Tables.{HasThese}
use Rattle.desk_store.specs.Tables.{IsAtRestWith}

-- after a refusal or a failure
pub rest_after_error : (all : Bool) (old new : State) → IsAtRestWith all old → IsUnchanged old new ⊎ IsRolledBack old new → IsAtRestWith all new
rest_after_error all old new rest (inl same) = record {
  autocommit = same.0.mode ∙ rest.autocommit;
  settled = λ _. same.0.now_is ∙ rest.settled same.0.was_open ∙ sym same.0.committed_is;
  tables = λ _. subst (λ (d : Database). HasThese all d.schema) (sym same.0.committed_is) (rest.tables same.0.was_open);
}
rest_after_error all old new rest (inr back) = record {
  autocommit = back.autocommit;
  settled = λ live. (back.undone live).0 ∙ sym (back.undone live).1;
  tables = λ live. subst (λ (d : Database). HasThese all d.schema) (sym (back.undone live).1) (rest.tables (back.was_open live));
}

pub was_open : (old new : State) → IsUnchanged old new ⊎ IsRolledBack old new → IsTrue new.is_open → IsTrue old.is_open
was_open old new (inl same) live = same.0.was_open
was_open old new (inr back) live = back.was_open live

pub kept_commit : (old new : State) → IsUnchanged old new ⊎ IsRolledBack old new → IsTrue new.is_open → new.committed ≡ old.committed
kept_commit old new (inl same) live = same.0.committed_is
kept_commit old new (inr back) live = (back.undone live).1

pub not_run : (old new : State) (sql : List ℕ) (params : Row) (e : Error) → IsNotRun old new sql params e → IsUnchanged old new ⊎ IsRolledBack old new
unfolding ExecutesIn
not_run old new sql params e h = fails_whole old new false sql params e (inl h)

pub changes_nothing : (old new : State) → (old.in_transaction ≡ false → new.in_transaction ≡ false) → (HasCleanDisk new → IsUnchanged old new ⊎ IsRolledBack old new) → Survives old new (λ _. ⊥) → ChangesNothing old new
changes_nothing old new mode kept survives = record {
  mode = mode;
  rest = λ clean all rest. rest_after_error all old new rest (kept clean);
  opened = λ clean live. was_open old new (kept clean) live;
  leaves = record { same = λ clean live. kept_commit old new (kept clean) live; crash = survives };
}

pub look_then : (old mid new : State) → ChangesNothing old mid → ChangesNothing mid new → ChangesNothing old new
look_then old mid new first then =
    let early : HasCleanDisk new → HasCleanDisk mid = λ clean. omega (arith, clean, then.leaves.crash.clean) in
    record {
      mode = λ autocommit. then.mode (first.mode autocommit);
      rest = λ clean all rest. then.rest clean all (first.rest (early clean) all rest);
      opened = λ clean live. first.opened (early clean) (then.opened clean live);
      leaves = record {
        same = λ clean live. then.leaves.same clean live ∙ first.leaves.same (early clean) (then.opened clean live);
        crash = survives_then old mid new (λ _. ⊥) (λ _. ⊥) (λ _. ⊥) (λ clean trees none. none) (λ clean trees none. none) first.leaves.crash then.leaves.crash;
      };
    }

-- what was so before a look
pub early : (old new : State) → ChangesNothing old new → HasCleanDisk new → HasCleanDisk old
early old new look clean = omega (arith, clean, look.leaves.crash.clean)

pub rest_after : (all : Bool) (old new : State) → ChangesNothing old new → (HasCleanDisk old → IsAtRestWith all old) → HasCleanDisk new → IsAtRestWith all new
rest_after all old new look rest clean = look.rest clean all (rest (early old new look clean))

pub same_after : (old new : State) → ChangesNothing old new → HasCleanDisk new → IsTrue new.is_open → new.committed ≡ old.committed
same_after old new look clean live = look.leaves.same clean live
