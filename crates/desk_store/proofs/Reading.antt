-- What the queries answer on a connection at rest.
use Rattle.std.proofs.Common.{◌≡◌, ◌⊎◌, inl, inr, Bool, ℕ, List, false, Some, None, Option, Ok, Err, Result, IsTrue, IfOk, IfErr, OnOk, refl, sym, ap, subst, ◌∙◌, arith}
use Rattle.std.specs.Prelude.{Vec}
use Rattle.sqlite.specs.Order.{Row}
use Rattle.sqlite.specs.Effect.{Database}
use Rattle.sqlite.specs.Listing.{understood}
use Rattle.sqlite_trees.specs.declared.store.Store.{Ghosts}
use Rattle.sqlite.specs.Held.{Held, state}
use Rattle.sqlite.specs.State.{State, HasCleanDisk, Survives, IsNotRun, IsUnchanged, IsRolledBack, Shown, ShowsRows, CommitsShowing, FailsToQuery, FailsToShow}
use Rattle.sqlite_resolve.specs.declared.compiled.Compiled.{Compiled}
use Rattle.sqlite_schema.specs.declared.command.Returning.{Returning}
use Rattle.std.specs.Prelude.{IsPermutation}
use Rattle.sqlite.specs.declared.error.Error.{Error}
use Rattle.sqlite.proofs.Callers.{IsPlain, command_of, reads_as, never_commits}
use Rattle.desk_store.proofs.ChangesNothing.{changes_nothing, look_then, not_run, rest_after_error}
use Rattle.desk_store.proofs.Inside.{same_survives}
use Rattle.desk_store.proofs.Said.{said_in, said_now}
use Rattle.desk_store.specs.Error.{FailsAsSaid, IsSaid, Query}
use Rattle.desk_store.specs.Looks.{ChangesNothing, IsLook, ReadsRows}
use Rattle.desk_schema.specs.Tables.{HasThese}
use Rattle.desk_store.specs.Tables.{IsAtRestWith}

shown_by : (old new : State) (sql : List ℕ) (c : Compiled) (params : Row) (rows : List Row) (returning : Option Returning) → returning ≡ None → ShowsRows old new sql c params rows returning → IsUnchanged old new
shown_by old new sql c params rows None none h = h.3
shown_by old new sql c params rows (Some what) none h = absurd (cc)

pub shown_unchanged : (old new : State) (sql : List ℕ) (params : Row) (rows : List Row) → IsPlain (understood old.now.schema sql) → Shown sql params old new rows → IsUnchanged old new
unfolding Shown
shown_unchanged old new sql params rows plain h = shown_by old new sql h.0 _ rows h.0.returning (subst IsPlain h.1.is plain).0 h.2

failed_by : (old new : State) (sql : List ℕ) (c : Compiled) (params : Row) (e : Error) (returning : Option Returning) → FailsToShow old new sql c params e returning → IsUnchanged old new ⊎ IsRolledBack old new
failed_by old new sql c params e None h = inl h.3
failed_by old new sql c params e (Some what) (inl h) = inl h.1
failed_by old new sql c params e (Some what) (inr h) = inr h.3

-- a query that fails changes nothing, or the store failed
pub query_failed : (old new : State) (sql : List ℕ) (params : Row) (e : Error) → FailsToQuery sql params old new e → IsUnchanged old new ⊎ IsRolledBack old new
unfolding FailsToQuery
query_failed old new sql params e (inl h) = not_run old new sql params e h
query_failed old new sql params e (inr h) = failed_by old new sql h.0 _ e h.0.returning h.2

-- the statement that showed the rows, as it was compiled
pub compiled_in : (old new : State) (sql : List ℕ) (params : Row) (rows : List Row) → Shown sql params old new rows → (c : Compiled) × (understood old.now.schema sql ≡ Ok c)
unfolding Shown
compiled_in old new sql params rows h = (h.0, h.1.is)

-- a query that was prepared first reads the rows, or fails and changes nothing
module _ {Y : Type 0} (all : Bool) (query : List ℕ) (params : Row) (of : Database → List Row) (look : IsLook all query params of) (old mid new : State) (sql : List ℕ) (result : Result (Vec Row Y) Error)
    (rest : HasCleanDisk old → IsAtRestWith all old) (prepared : HasCleanDisk mid → (sql ≡ query) × IsUnchanged old mid)
    (first : Survives old mid (λ _. ⊥)) (then : Survives mid new (CommitsShowing sql params mid))
    (ok : HasCleanDisk new → IfOk result (λ rows. Shown sql params mid new rows.items)) (err : HasCleanDisk new → IfErr result (FailsToQuery sql params mid new)) where
  early : HasCleanDisk new → HasCleanDisk mid
  early clean = omega (arith, clean, then.clean)

  ready : HasCleanDisk mid → IsAtRestWith all mid
  ready clean = rest_after_error all old mid (rest (omega (arith, clean, first.clean))) (inl (prepared clean).1)

  settled : (clean : HasCleanDisk mid) → mid.now ≡ mid.committed
  settled clean = (ready clean).settled (prepared clean).1.0.is_open

  tables : HasCleanDisk mid → HasThese all mid.now.schema
  tables clean = subst (λ (d : Database). HasThese all d.schema) (sym (settled clean)) ((ready clean).tables (prepared clean).1.0.is_open)

  shown : (rows : Vec Row Y) → HasCleanDisk new → Shown sql params mid new rows.items → Shown query params mid new rows.items × IsUnchanged mid new
  shown rows clean h =
      let same = (prepared (early clean)).0 in
      let it : Shown query params mid new rows.items = rw same at h in
      (it, shown_unchanged mid new query params rows.items (look.plain mid.now.schema (tables (early clean))) it)

  kept : (r : Result (Vec Row Y) Error) → HasCleanDisk new → IfOk r (λ rows. Shown sql params mid new rows.items) → IfErr r (FailsToQuery sql params mid new) → IsUnchanged mid new ⊎ IsRolledBack mid new
  kept (Ok rows) clean h none = inl (shown rows clean h).1
  kept (Err e) clean none h = query_failed mid new sql params e h

  quiet : Survives mid new (λ _. ⊥)
  quiet = record {
    clean = then.clean;
    shield = then.shield;
    counts = then.counts;
    limit = then.limit;
    closes = then.closes;
    crash = λ clean trees may. elim (then.crash clean trees may) [
      | inl as_before ↦ inl as_before
      | inr commits ↦
          let same = (prepared (early clean)).0 in
          inr (never_commits query params mid trees (look.plain mid.now.schema (tables (early clean))) (rw same at commits))
    ];
  }

  open_and_read : (r : Result (Vec Row Y) Error) → HasCleanDisk new → IfOk r (λ rows. Shown sql params mid new rows.items) → OnOk r (IsTrue new.is_open) × IfOk r (λ rows. IsPermutation (of old.committed) rows.items)
  open_and_read (Ok rows) clean h =
      let it = shown rows clean h in
      let has = tables (early clean) in
      let c = compiled_in mid new query params rows.items it.0 in
      let plain = look.plain mid.now.schema has in
      let read = reads_as query params mid new mid.now.schema refl c.0.command (ap command_of c.1) plain (look.unlisted mid.now.schema has) rows.items it.0 in
      (it.1.0.is_open, subst (λ (d : Database). IsPermutation (of d) rows.items) (settled (early clean) ∙ (prepared (early clean)).1.0.committed_is) (look.rows mid.now rows.items c.0 has c.1 read))
  open_and_read (Err e) clean h = (tt, tt)

  looked : (old.in_transaction ≡ false → mid.in_transaction ≡ false) → (mid.in_transaction ≡ false → new.in_transaction ≡ false) → ChangesNothing old new
  looked before after = look_then old mid new (changes_nothing old mid before (λ clean. inl (prepared clean).1) first) (changes_nothing mid new after (λ clean. kept result clean (ok clean) (err clean)) quiet)

  was_read : HasCleanDisk new → OnOk result (IsTrue new.is_open) × IfOk result (λ rows. IsPermutation (of old.committed) rows.items)
  was_read clean = open_and_read result clean (ok clean)

  -- as it was prepared
  failed_so : HasCleanDisk new → (e : Error) → FailsToQuery sql params mid new e → FailsToQuery query params mid new e
  failed_so clean e fails = rw (prepared (early clean)).0 at fails

module _ {S Y : Type 0} (g : Ghosts S) (all : Bool) (query : List ℕ) (params : Row) (of : Database → List Row) (look : IsLook all query params of) (old mid new : Held S) (sql : List ℕ)
    (rest : HasCleanDisk (state g old) → IsAtRestWith all (state g old)) (prepared : HasCleanDisk (state g mid) → (sql ≡ query) × IsUnchanged (state g old) (state g mid))
    (first : Survives (state g old) (state g mid) (λ _. ⊥)) (then : Survives (state g mid) (state g new) (CommitsShowing sql params (state g mid))) where
  said_by : (result : Result (Vec Row Y) Error) → (HasCleanDisk (state g new) → IfOk result (λ rows. Shown sql params (state g mid) (state g new) rows.items))
      → (HasCleanDisk (state g new) → IfErr result (FailsToQuery sql params (state g mid) (state g new))) → FailsAsSaid g (λ s. s ≡ Query query params) old new result
  said_by (Ok rows) ok err clean = tt
  said_by (Err e) ok err clean =
      let failed = failed_so {Y = Y} all query params of look (state g old) (state g mid) (state g new) sql (Err e) rest prepared first then ok err clean e (err clean) in
      said_in g (λ s. s ≡ Query query params) (λ s. s ≡ Query query params) (λ s own. own) old mid new new e first (said_now g (λ s. s ≡ Query query params) mid new (Query query params) e refl failed) (same_survives (state g new))

  pub reads : (result : Result (Vec Row Y) Error) → (HasCleanDisk (state g new) → IfOk result (λ rows. Shown sql params (state g mid) (state g new) rows.items))
      → (HasCleanDisk (state g new) → IfErr result (FailsToQuery sql params (state g mid) (state g new)))
      → ((state g old).in_transaction ≡ false → (state g mid).in_transaction ≡ false) → ((state g mid).in_transaction ≡ false → (state g new).in_transaction ≡ false) → ReadsRows g of (Query query params) old new result
  reads result ok err before after = record {
    look = looked all query params of look (state g old) (state g mid) (state g new) sql result rest prepared first then ok err before after;
    live = λ clean. (was_read all query params of look (state g old) (state g mid) (state g new) sql result rest prepared first then ok err clean).0;
    rows = λ clean. (was_read all query params of look (state g old) (state g mid) (state g new) sql result rest prepared first then ok err clean).1;
    said = said_by result ok err;
  }

-- a query that could not be prepared
not_prepared : (sql : List ℕ) (params : Row) (old new : State) (e : Error) → IsNotRun old new sql params e → FailsToQuery sql params old new e
unfolding FailsToQuery
not_prepared sql params old new e not_run = inl not_run

pub said_unprepared : {S : Type 0} (g : Ghosts S) (sql : List ℕ) (params : Row) (old new : Held S) (e : Error) → IsNotRun (state g old) (state g new) sql params e → IsSaid g (λ s. s ≡ Query sql params) old new e
said_unprepared g sql params old new e fails = said_now g (λ s. s ≡ Query sql params) old new (Query sql params) e refl (not_prepared sql params (state g old) (state g new) e fails)

pub not_read : {S Y : Type 0} (g : Ghosts S) (of : Database → List Row) (sql : List ℕ) (params : Row) (old new : Held S) (e : Error) → ChangesNothing (state g old) (state g new)
    → (HasCleanDisk (state g new) → IsNotRun (state g old) (state g new) sql params e) → ReadsRows {Y = Y} g of (Query sql params) old new (Err e)
not_read g of sql params old new e look fails = record { look = look; live = λ clean. tt; rows = λ clean. tt; said = λ clean. said_unprepared g sql params old new e (fails clean) }
