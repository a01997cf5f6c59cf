-- What a look for room comes to.
use Rattle.std.proofs.Common.{◌≡◌, ◌⊎◌, ◌∙◌, sym, ap, subst, inl, inr, IsTrue, Ok, Err, true, false}
use Rattle.sqlite.specs.Effect.{Database}
use Rattle.sqlite.specs.Schema.{Schema}
use Rattle.sqlite.specs.State.{HasCleanDisk, IsRolledBack, IsUnchanged, State, Survives}
use Rattle.desk_store.specs.Create.{HasRoom, IsOfMaking, IsOfRoom, LooksForRoom, RefusesRoom, has_one}
use Rattle.desk_store.specs.Desk.{LeavesTables}
use Rattle.desk_store.specs.declared.error.CreateError.{CreateError}
use Rattle.desk_store.specs.declared.error.CreateError.TheVariants as refused
use Rattle.desk_store.proofs.ChangesNothing.{kept_commit}

making : (schema : Schema) (e : CreateError) → IsOfMaking e → RefusesRoom schema e
making schema e (inl memory) = subst (RefusesRoom schema) (sym memory) tt
making schema e (inr store) = subst (RefusesRoom schema) (sym store.2) store.1

of_room : (e : CreateError) → IsOfMaking e → IsOfRoom e
of_room e (inl memory) = subst IsOfRoom (sym memory) tt
of_room e (inr store) = subst IsOfRoom (sym store.2) store.1

module _ (old new : State) (mode : new.in_transaction ≡ false) (survives : Survives old new (λ _. ⊥)) where
  pub not_looked : {T : Type 0} (e : CreateError) → (HasCleanDisk new → IsUnchanged old new ⊎ IsRolledBack old new) → IsOfMaking e → LooksForRoom {T = T} old new (Err e)
  not_looked e kept says = record {
    leaves = record { same = λ clean live. kept_commit old new (kept clean) live; crash = survives };
    mode = mode;
    found = λ clean. tt;
    kind = of_room e says;
    refused = λ clean. making old.committed.schema e says;
  }

  module _ (same : HasCleanDisk new → IsUnchanged old new) (settled : IsTrue new.is_open → new.now ≡ new.committed) where
    at_rest : HasCleanDisk new → new.now ≡ old.committed
    at_rest clean = settled (same clean).0.is_open ∙ (same clean).0.committed_is

    leaves : LeavesTables old new
    leaves = record { same = λ clean live. (same clean).0.committed_is; crash = survives }

    pub one_there : {T : Type 0} → has_one new.now.schema ≡ true → LooksForRoom {T = T} old new (Err refused.Schema)
    one_there one = record { leaves = leaves; mode = mode; found = λ clean. tt; kind = tt; refused = λ clean. ap (λ (d : Database). has_one d.schema) (sym (at_rest clean)) ∙ one }

    pub no_room : {T : Type 0} (e : CreateError) → IsOfMaking e → LooksForRoom {T = T} old new (Err e)
    no_room e says = record { leaves = leaves; mode = mode; found = λ clean. tt; kind = of_room e says; refused = λ clean. making old.committed.schema e says }

    pub room_there : {T : Type 0} (x : T) → has_one new.now.schema ≡ false → HasRoom new.now.schema → LooksForRoom {T = T} old new (Ok x)
    room_there x none room = record {
      leaves = leaves;
      mode = mode;
      found = λ clean. record {
        was_open = (same clean).0.was_open;
        is_open = (same clean).0.is_open;
        committed = (same clean).0.committed_is;
        settled = at_rest clean;
        none = ap (λ (d : Database). has_one d.schema) (sym (at_rest clean)) ∙ none;
        room = subst (λ (d : Database). HasRoom d.schema) (at_rest clean) room;
      };
      kind = tt;
      refused = λ clean. tt;
    }
