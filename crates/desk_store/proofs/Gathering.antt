-- What becomes of a connection whose rows are gathered one after another.
use Rattle.std.proofs.Common.{◌≡◌, ◌∙◌, ◌⊎◌, inl, inr, Bool, false, ℕ, List, [], ◌∷◌, ◌++◌, Option, None, Some, Result, Ok, Err, IfOk, IsPermutation, ap, arith, refl, subst, sym}
use Rattle.std.specs.Prelude.{OnErr}
use Rattle.std.proofs.lemmas.List.Sorted.{IsPermutation-refl}
use Rattle.sqlite_trees.specs.declared.store.Store.{Ghosts}
use Rattle.sqlite.specs.Effect.{Database}
use Rattle.sqlite.specs.Given.{FailsToAdvance, HasBegun, HasGiven, IsPlain, IsRefused}
use Rattle.sqlite.specs.Held.{Held, state}
use Rattle.sqlite.specs.Listing.{understood}
use Rattle.sqlite.specs.Order.{Row}
use Rattle.sqlite.specs.State.{CommitsShowing, FailsToQuery, HasCleanDisk, IsNotRun, IsUnchanged, Shown, Survives}
use Rattle.sqlite.specs.declared.error.Error.{Error}
use Rattle.sqlite.proofs.Callers.{begun_plain, command_of, never_commits, reads_as, unchanged_then}
use Rattle.desk_schema.specs.Tables.{HasThese}
use Rattle.desk_store.specs.Error.{FailsAsSaid, Query, Statement}
use Rattle.desk_store.specs.PrivateGatheredRevisions.{GathersRows, GathersShown, IsFull, IsGathered, IsGatheredAs}
use Rattle.desk_store.specs.Looks.{ChangesNothing, IsLook}
use Rattle.desk_store.specs.Tables.{IsAtRestWith}
use Rattle.desk_store.specs.declared.gathered_revisions.Gathered.{Gathered}
use Rattle.desk_store.specs.declared.gathered_revisions.Ungathered.{Ungathered}
use Rattle.desk_store.specs.declared.gathered_revisions.Ungathered.TheVariants.{Foreign, Memory}
use Rattle.desk_store.proofs.ChangesNothing.{changes_nothing, early as clean_before, look_then, rest_after_error}
use Rattle.desk_store.proofs.Inside.{same_survives}
use Rattle.desk_store.proofs.Reading.{compiled_in, query_failed, said_unprepared}
use Rattle.desk_store.proofs.Said.{both, said_in, said_now}

module _ {S : Type 0} (g : Ghosts S) (sql : List ℕ) (old : Held S) (plain : HasCleanDisk (state g old) → IsPlain (understood old.schema sql)) where
  abbrev pub own : Statement → Type 0
  own s = s ≡ Query sql []

  quiet : (new : Held S) → Survives (state g old) (state g new) (CommitsShowing sql [] (state g old)) → Survives (state g old) (state g new) (λ _. ⊥)
  quiet new then = record {
    clean = then.clean;
    shield = then.shield;
    counts = then.counts;
    limit = then.limit;
    closes = then.closes;
    crash = λ clean trees may. elim (then.crash clean trees may) [
      | inl as_before ↦ inl as_before
      | inr commits ↦ inr (never_commits sql [] (state g old) trees (plain (omega (arith, clean, then.clean))) commits)
    ];
  }

  -- a query that does not begin
  refused_so : (e : Error) (new : Held S) → (old.in_transaction ≡ false → new.in_transaction ≡ false) → (HasCleanDisk (state g new) → FailsToQuery sql [] (state g old) (state g new) e)
      → Survives (state g old) (state g new) (CommitsShowing sql [] (state g old)) → GathersShown g sql old new (Err e)
  refused_so e new mode fails survives = record {
    look = changes_nothing (state g old) (state g new) mode (λ clean. query_failed (state g old) (state g new) sql [] e (fails clean)) (quiet new survives);
    live = λ clean. tt;
    gathered = tt;
    said = λ clean. said_now g own old new (Query sql []) e refl (fails clean);
  }

  pub refused : {X : Type 0} (r : Result X Error) (e : Error) (new : Held S) → r ≡ Err e → OnErr r (IsRefused g sql [] old r new) → GathersShown g sql old new (Err e)
  refused (Ok x) e new was held = absurd (cc)
  refused (Err f) e new was held = let same : f ≡ e = cc in subst (λ x. GathersShown g sql old new (Err x)) same (refused_so f new held.mode held.err held.survives)

  -- a query that begins
  pub begun : (new : Held S) → Survives (state g old) (state g new) (CommitsShowing sql [] (state g old)) → (HasCleanDisk (state g new) → HasBegun g sql [] old new)
      → Survives (state g old) (state g new) (λ _. ⊥) × (HasCleanDisk (state g new) → IsUnchanged (state g old) (state g new) × HasGiven g sql [] new [])
  begun new then h = (quiet new then, λ clean. let it = begun_plain g sql [] old new (plain (omega (arith, clean, then.clean))) (h clean) in (it.1, it.0))

  -- one that has given these rows
  module _ (mid : Held S) (given : List Row) (kept : old.in_transaction ≡ false → mid.in_transaction ≡ false) (reaches : Survives (state g old) (state g mid) (λ _. ⊥))
      (held : HasCleanDisk (state g mid) → IsUnchanged (state g old) (state g mid) × HasGiven g sql [] mid given) where
    module _ (new : Held S) (mode : mid.in_transaction ≡ false → new.in_transaction ≡ false) (then : Survives (state g mid) (state g new) (λ _. ⊥)) where
      early : HasCleanDisk (state g new) → HasCleanDisk (state g mid)
      early clean = omega (arith, clean, then.clean)

      -- and then one more
      pub more : (row : Row) → (HasCleanDisk (state g new) → IsUnchanged (state g mid) (state g new)) → (HasCleanDisk (state g new) → HasGiven g sql [] mid given → HasGiven g sql [] new (given ++ row ∷ []))
          → Survives (state g old) (state g new) (λ _. ⊥) × (HasCleanDisk (state g new) → IsUnchanged (state g old) (state g new) × HasGiven g sql [] new (given ++ row ∷ []))
      more row same gives = (
        both (state g old) (state g mid) (state g new) reaches then,
        λ clean. (unchanged_then (state g old) (state g mid) (state g new) (held (early clean)).0 (same clean), gives clean (held (early clean)).1),
      )

      pub failed : (e : Error) → (HasCleanDisk (state g new) → FailsToAdvance g mid new e) → GathersShown g sql old new (Err e)
      failed e fails = record {
        look =
            look_then (state g old) (state g mid) (state g new) (changes_nothing (state g old) (state g mid) kept (λ clean. inl (held clean).0) reaches)
            (changes_nothing (state g mid) (state g new) mode (λ clean. query_failed (state g mid) (state g new) sql [] e (fails clean sql [] given (held (early clean)).1)) then);
        live = λ clean. tt;
        gathered = tt;
        said = λ clean. said_in g own own (λ s is. is) old mid new new e reaches (said_now g own mid new (Query sql []) e refl (fails clean sql [] given (held (early clean)).1)) (same_survives (state g new));
      }

      pub ended : (gathered : Gathered) → IsGathered given gathered → (HasCleanDisk (state g new) → IsUnchanged (state g mid) (state g new)) → (HasCleanDisk (state g new) → HasGiven g sql [] mid given → Shown sql [] (state g mid) (state g new) given)
          → GathersShown g sql old new (Ok gathered)
      ended gathered is same shown = record {
        look =
            look_then (state g old) (state g mid) (state g new) (changes_nothing (state g old) (state g mid) kept (λ clean. inl (held clean).0) reaches)
            (changes_nothing (state g mid) (state g new) mode (λ clean. inl (same clean)) then);
        live = λ clean. (same clean).0.is_open;
        gathered = (given, is, λ clean. inl (mid, (held (early clean)).0, shown clean (held (early clean)).1));
        said = λ clean. tt;
      }

-- what was gathered of all rows that a query shows, or of some before there was no more room
module _ (own : List Row) (gathered : Gathered) where
  some_rows : (fault : Option Ungathered) → gathered.fault ≡ fault → (rows : List Row) → IsGathered rows gathered → (P : Type 0) → (P → IsPermutation own rows ⊎ IsFull gathered)
      → (rows : List Row) × IsGathered rows gathered × (P → IsPermutation own rows)
  some_rows None is rows of P all = (
    rows,
    of,
    λ holds. elim (all holds) [
      | inl same ↦ same
      | inr full ↦ absurd (cc)
    ],
  )
  some_rows (Some Foreign) is rows of P all = (
    rows,
    of,
    λ holds. elim (all holds) [
      | inl same ↦ same
      | inr full ↦ absurd (cc)
    ],
  )
  some_rows (Some Memory) is rows of P all = (own, subst (IsGatheredAs own gathered.heads.items) (sym is) tt, λ holds. IsPermutation-refl own)

-- the rows of a look are gathered, after it was prepared
module _ {S : Type 0} (g : Ghosts S) (all : Bool) (query : List ℕ) (of : Database → List Row) (look : IsLook all query [] of) (old mid new : Held S) (sql : List ℕ)
    (rest : HasCleanDisk (state g old) → IsAtRestWith all (state g old)) (prepared : HasCleanDisk (state g mid) → (sql ≡ query) × IsUnchanged (state g old) (state g mid))
    (before : old.in_transaction ≡ false → mid.in_transaction ≡ false) (first : Survives (state g old) (state g mid) (λ _. ⊥)) where
  rested : (last : Held S) → HasCleanDisk (state g mid) → IsUnchanged (state g mid) (state g last) → IsAtRestWith all (state g last) × IsUnchanged (state g old) (state g last)
  rested last clean same =
      let through = unchanged_then (state g old) (state g mid) (state g last) (prepared clean).1 same in
      (rest_after_error all (state g old) (state g last) (rest (omega (arith, clean, first.clean))) (inl through), through)

  has_tables : (last : Held S) → IsAtRestWith all (state g last) → (is_unchanged : IsUnchanged (state g old) (state g last)) → HasThese all (state g last).now.schema
  has_tables last at_rest same = subst (λ (d : Database). HasThese all d.schema) (sym (at_rest.settled same.0.is_open)) (at_rest.tables same.0.is_open)

  pub plain : HasCleanDisk (state g mid) → IsPlain (understood mid.schema sql)
  plain clean =
      let same = (prepared clean).1 in
      let at_rest = rest_after_error all (state g old) (state g mid) (rest (omega (arith, clean, first.clean))) (inl same) in
      subst (λ text. IsPlain (understood mid.schema text)) (sym (prepared clean).0) (look.plain mid.schema (has_tables mid at_rest same))

  read_so : (last : Held S) (rows : List Row) → HasCleanDisk (state g mid) → IsUnchanged (state g mid) (state g last) → Shown sql [] (state g last) (state g new) rows → IsPermutation (of (state g old).committed) rows
  read_so last rows clean same shown =
      let it = rested last clean same in
      let has = has_tables last it.0 it.1 in
      let own_shown : Shown query [] (state g last) (state g new) rows = subst (λ text. Shown text [] (state g last) (state g new) rows) (prepared clean).0 shown in
      let c = compiled_in (state g last) (state g new) query [] rows own_shown in
      let is_plain = look.plain (state g last).now.schema has in
      let read = reads_as query [] (state g last) (state g new) (state g last).now.schema refl c.0.command (ap command_of c.1) is_plain (look.unlisted (state g last).now.schema has) rows own_shown in
      subst (λ (d : Database). IsPermutation (of d) rows) (it.0.settled it.1.0.is_open ∙ it.1.0.committed_is) (look.rows (state g last).now rows c.0 has c.1 read)

  said_so : {T : Type 0} (result : Result T Error) → (HasCleanDisk (state g new) → HasCleanDisk (state g mid)) → FailsAsSaid g (λ s. s ≡ Query sql []) mid new result → FailsAsSaid g (λ s. s ≡ Query query []) old new result
  said_so (Ok x) was said clean = tt
  said_so (Err e) was said clean =
      said_in g (λ s. s ≡ Query sql []) (λ s. s ≡ Query query []) (λ s is. is ∙ ap (λ text. Query text []) (prepared (was clean)).0) old mid new new e first (said clean) (same_survives (state g new))

  rows_so : (result : Result Gathered Error) → GathersShown g sql mid new result
      → IfOk result (λ gathered. (rows : List Row) × IsGathered rows gathered × (HasCleanDisk (state g new) → IsPermutation (of (state g old).committed) rows))
  rows_so (Ok gathered) shown =
      let it = shown.gathered in
      some_rows (of (state g old).committed) gathered gathered.fault refl it.0 it.1 (HasCleanDisk (state g new)) (λ clean. elim (it.2 clean) [
        | inl whole ↦ inl (read_so whole.0 it.0 (clean_before (state g mid) (state g new) shown.look clean) whole.1 whole.2)
        | inr full ↦ inr full
      ])
  rows_so (Err e) shown = tt

  pub gathers : (result : Result Gathered Error) → GathersShown g sql mid new result → GathersRows g of (Query query []) old new result
  gathers result shown = record {
    look = look_then (state g old) (state g mid) (state g new) (changes_nothing (state g old) (state g mid) before (λ clean. inl (prepared clean).1) first) shown.look;
    live = shown.live;
    rows = rows_so result shown;
    said = said_so result (λ clean. clean_before (state g mid) (state g new) shown.look clean) shown.said;
  }

-- a query that could not be prepared
pub not_gathered : {S : Type 0} (g : Ghosts S) (of : Database → List Row) (sql : List ℕ) (old new : Held S) (e : Error) → ChangesNothing (state g old) (state g new)
    → (HasCleanDisk (state g new) → IsNotRun (state g old) (state g new) sql [] e) → GathersRows g of (Query sql []) old new (Err e)
not_gathered g of sql old new e look fails = record { look = look; live = λ clean. tt; rows = tt; said = λ clean. said_unprepared g sql [] old new e (fails clean) }
