-- What steps within a transaction come to, one after another.
use Rattle.std.proofs.Common.{◌≡◌, ◌∙◌, inl, inr, refl, ℕ, true, false, List, Result, Ok, Err, OnOk, arith}
use Rattle.std.specs.Prelude.{IsErr, IsTrue}
use Rattle.std.proofs.lemmas.Bool.{cases_Bool}
use Rattle.sqlite.specs.Order.{Row}
use Rattle.sqlite.specs.State.{Executes, ExecutesInside, HasCleanDisk, KeepsCommit, Shows, State, Survives}
use Rattle.sqlite.specs.declared.error.Error.{Error}
use Rattle.sqlite.proofs.InsideLemmas.{inside_keeps, keeps_then}
use Rattle.sqlite.proofs.StateLemmas.{survives_then}
use Rattle.desk_store.specs.Create.{IsInside, RunsInside}

-- one step after another, of which the first succeeded
module _ {T U : Type 0} (a b c : State) (x : T) (result : Result U Error) (One Two Both : State → State → Type 0) where
  done_then : RunsInside a b (Ok x) One → RunsInside b c result Two → (One a b → Two b c → Both a c) → (r : Result U Error) → HasCleanDisk b → OnOk r (Shows b c c.now b.committed true × Two b c) → OnOk r (Shows a c c.now a.committed true × Both a c)
  done_then one two both (Ok y) early h =
      let first = one.done early in
      (record { was_open = first.0.was_open; is_open = h.0.is_open; now_is = refl; committed_is = h.0.committed_is ∙ first.0.committed_is; mode = h.0.mode }, both first.1 h.1)
  done_then one two both (Err e) early h = tt

  pub inside_then : RunsInside a b (Ok x) One → RunsInside b c result Two → (One a b → Two b c → Both a c) → RunsInside a c result Both
  inside_then one two both = record {
    kept = λ clean. let early : HasCleanDisk b = omega (arith, two.crash.clean) in keeps_then a b c (one.kept early) (two.kept clean);
    crash = survives_then a b c (λ _. ⊥) (λ _. ⊥) (λ _. ⊥) (λ _ trees none. none) (λ _ trees none. none) one.crash two.crash;
    done = λ clean. let early : HasCleanDisk b = omega (arith, two.crash.clean) in done_then one two both result early (two.done clean);
  }

-- a statement ran within a transaction, which it neither began nor ended
pub ran_inside : {T : Type 0} (a b : State) (sql : List ℕ) (params : Row) (count : ℕ) (x : T) (said : Error) (Same : Type 0)
    → (a.in_transaction ≡ false → (◌≡◌ {A = Result ℕ Error} (Ok count) (Err said)) × Same)
    → (HasCleanDisk b → IsTrue a.in_transaction → ExecutesInside 0 sql params a b (Ok count)) → Survives a b (λ _. ⊥) → RunsInside a b (Ok x) (λ s t. Executes sql params s t (Ok count))
ran_inside a b sql params count x said Same ended runs survives = elim (cases_Bool a.in_transaction) [
  | inl on ↦ record {
    kept = λ clean. inside_keeps a b 0 false sql params (Ok count) (runs clean on);
    crash = survives;
    done = λ clean. let it = runs clean on in (it.1, it.0);
  }
  | inr off ↦ absurd (let e = (ended off).0 in cc)
]

pub stays_so : (a : State) → KeepsCommit a a
stays_so a = record { was_open = λ live. live; committed = λ live. refl }

-- a statement within a transaction was refused or failed
pub failed_inside : {T : Type 0} (a b : State) (sql : List ℕ) (params : Row) (e f : Error) (Said : Type 0) (Did : State → State → Type 0)
    → (a.in_transaction ≡ false → Said × KeepsCommit a b)
    → (HasCleanDisk b → IsTrue a.in_transaction → ExecutesInside 0 sql params a b (Err e)) → Survives a b (λ _. ⊥) → RunsInside {T = T} a b (Err f) Did
failed_inside a b sql params e f Said Did ended runs survives = elim (cases_Bool a.in_transaction) [
  | inl on ↦ record { kept = λ clean. inside_keeps a b 0 false sql params (Err e) (runs clean on); crash = survives; done = λ clean. tt }
  | inr off ↦ record { kept = λ clean. (ended off).1; crash = survives; done = λ clean. tt }
]

if_ok : {T : Type 0} (r : Result T Error) (S P Q : Type 0) → OnOk r (S × P) → (P → Q) → OnOk r (S × Q)
if_ok (Ok x) S P Q h f = (h.0, f h.1)
if_ok (Err e) S P Q h f = tt

-- a step that did more than is said
pub did_so : {T : Type 0} (a b : State) (result : Result T Error) (One Both : State → State → Type 0) → (One a b → Both a b) → RunsInside a b result One → RunsInside a b result Both
did_so a b result One Both f h = record { kept = h.kept; crash = h.crash; done = λ clean. if_ok result (Shows a b b.now a.committed true) (One a b) (Both a b) (h.done clean) f }

pub same_survives : (a : State) → Survives a a (λ _. ⊥)
same_survives a = record { clean = omega arith; shield = λ h. h; counts = omega arith; limit = refl; closes = λ clean live. inl live; crash = λ clean trees may. inl may }

-- no step
pub no_step : {T : Type 0} (a : State) (x : T) (Did : State → State → Type 0) → (HasCleanDisk a → IsInside a) → (HasCleanDisk a → Did a a) → RunsInside a a (Ok x) Did
no_step a x Did inside did = record {
  kept = λ clean. stays_so a;
  crash = same_survives a;
  done = λ clean. let at = inside clean in (record { was_open = at.is_open; is_open = at.is_open; now_is = refl; committed_is = refl; mode = at.mode }, did clean);
}

not_done : {T : Type 0} (r : Result T Error) (P : Type 0) → IsErr r → OnOk r P
not_done (Ok x) P err = absurd (let e = err in cc)
not_done (Err e) P err = tt

-- a step after which another one failed, told as it is
pub failed_then : {T U V : Type 0} (a b c : State) (x : T) (e : Error) (r : Result V Error) (One Two Both : State → State → Type 0) → RunsInside a b (Ok x) One → RunsInside {T = U} b c (Err e) Two → IsErr r → RunsInside a c r Both
failed_then a b c x e r One Two Both one two err = record {
  kept = λ clean. let early : HasCleanDisk b = omega (arith, two.crash.clean) in keeps_then a b c (one.kept early) (two.kept clean);
  crash = survives_then a b c (λ _. ⊥) (λ _. ⊥) (λ _. ⊥) (λ _ trees none. none) (λ _ trees none. none) one.crash two.crash;
  done = λ clean. not_done r (Shows a c c.now a.committed true × Both a c) err;
}
