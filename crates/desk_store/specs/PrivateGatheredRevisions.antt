-- What is kept of the revisions of a database as their rows are read one after another. (this project's own)
use Rattle.std.specs.Prelude.{◌≡◌, ◌⊎◌, ◌<◌, ℕ, List, [], Option, None, Some, All, Contains, IfOk, IsPermutation, IsTrue, OnOk, Result, map, slice_get, slice_set}
use Rattle.std.specs.Option.{option_map_or}
use Rattle.sqlite_trees.specs.declared.store.Store.{Ghosts}
use Rattle.sqlite.specs.Effect.{Database}
use Rattle.sqlite.specs.Held.{Held, state}
use Rattle.sqlite.specs.Order.{Row}
use Rattle.sqlite.specs.State.{HasCleanDisk, IsUnchanged, Shown}
use Rattle.sqlite.specs.declared.error.Error.{Error}
use Rattle.desk_core.specs.Head.{Revision}
use Rattle.desk_store.specs.Desk.{IsStorable}
use Rattle.desk_store.specs.Error.{FailsAsSaid, Query, Statement}
use Rattle.desk_store.specs.History.{row_of}
use Rattle.desk_store.specs.Looks.{ChangesNothing}
use Rattle.desk_store.specs.StoredRows.{IsUnapproved}
use Rattle.desk_store.specs.declared.gathered_revisions.Gathered.{Gathered}
use Rattle.desk_store.specs.declared.gathered_revisions.Ungathered.{Ungathered}
use Rattle.desk_store.specs.declared.gathered_revisions.Ungathered.TheVariants as ungathered

-- a revision without its text
abbrev pub bare : Revision → Revision
bare revision = record revision { body = [] }

-- a later revision of its file is among these
abbrev pub IsOutdated : List Revision → Revision → Type 0
IsOutdated revisions revision = (later : Revision) × Contains revisions later × (later.file ≡ revision.file) × (revision.rev < later.rev)

-- A revision of these, and what is kept of it: all; or all but its text, if it is outdated.
abbrev pub IsKept : List Revision → Revision × Revision → Type 0
IsKept revisions one = (one.1 ≡ one.0) ⊎ ((one.1 ≡ bare one.0) × IsOutdated revisions one.0)

-- what is kept of each of these revisions, in their order
pub record AreKept (revisions kept : List Revision) : Type 0 where
  pub both : List (Revision × Revision)
  pub whole : map (λ one. one.0) both ≡ revisions
  pub light : map (λ one. one.1) both ≡ kept
  pub each : All (IsKept revisions) both

-- the revision at a place is older than that at the other, and both are of one file
abbrev pub IsOlderAt : List Revision → ℕ → ℕ → Type 0
IsOlderAt heads place other =
    (older : Revision) × (later : Revision) × (slice_get heads place ≡ Some older) × (slice_get heads other ≡ Some later) × (later.file ≡ older.file) × (older.rev < later.rev)

-- revisions, of which the one at a place has no text
abbrev pub with_bare : List Revision → ℕ → List Revision
with_bare heads place = option_map_or (λ head. slice_set heads place (bare head)) (slice_get heads place) heads

-- no revision that a database of this project may hold has this row
abbrev pub IsForeign : Row → Type 0
IsForeign row = (revision : Revision) → IsStorable revision → row_of revision ≡ row → ⊥

-- rows are those of revisions that a database of this project may hold, of which this is kept
pub record AreOf (rows : List Row) (kept : List Revision) : Type 0 where
  pub revisions : List Revision
  pub of_rows : map row_of revisions ≡ rows
  pub unapproved : All IsUnapproved revisions
  pub storable : All IsStorable revisions
  pub are_kept : AreKept revisions kept

-- What is gathered of rows: what is kept of their revisions; or one of them is not that of a revision; or memory ran out.
abbrev pub IsGatheredAs : List Row → List Revision → Option Ungathered → Type 0
IsGatheredAs rows kept None = AreOf rows kept
IsGatheredAs rows kept (Some ungathered.Foreign) = (row : Row) × Contains rows row × IsForeign row
IsGatheredAs rows kept (Some ungathered.Memory) = Unit {0}

abbrev pub IsGathered : List Row → Gathered → Type 0
IsGathered rows gathered = IsGatheredAs rows gathered.heads.items gathered.fault

-- it was gathered of some rows
abbrev pub WasGathered : Gathered → Type 0
WasGathered gathered = (rows : List Row) × IsGathered rows gathered

-- there is no room for another row
abbrev pub IsFull : Gathered → Type 0
IsFull gathered = gathered.fault ≡ Some ungathered.Memory

-- The revisions in all rows that a query showed are gathered, on a connection that had not changed when it showed the last; or there was
-- no room for another. Or it fails by what it said. It changes nothing.
pub record GathersShown {S : Type 0} (g : Ghosts S) (sql : List ℕ) (old new : Held S) (result : Result Gathered Error) : Type 0 where
  pub look : ChangesNothing (state g old) (state g new)
  pub live : HasCleanDisk (state g new) → OnOk result (IsTrue (state g new).is_open)
  pub gathered : IfOk result (λ gathered. (rows : List Row) × IsGathered rows gathered
      × (HasCleanDisk (state g new) → ((last : Held S) × IsUnchanged (state g old) (state g last) × Shown sql [] (state g last) (state g new) rows) ⊎ IsFull gathered))
  pub said : FailsAsSaid g (λ s. s ≡ Query sql []) old new result

-- this query changes nothing, and the revisions in these rows of the database, in some order, are gathered, over a connection that is
-- open; or it fails by what it said
pub record GathersRows {S : Type 0} (g : Ghosts S) (of : Database → List Row) (query : Statement) (old new : Held S) (result : Result Gathered Error) : Type 0 where
  pub look : ChangesNothing (state g old) (state g new)
  pub live : HasCleanDisk (state g new) → OnOk result (IsTrue (state g new).is_open)
  pub rows : IfOk result (λ gathered. (rows : List Row) × IsGathered rows gathered × (HasCleanDisk (state g new) → IsPermutation (of (state g old).committed) rows))
  pub said : FailsAsSaid g (λ s. s ≡ query) old new result
