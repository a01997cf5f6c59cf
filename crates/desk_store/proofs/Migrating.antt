-- What a migration leaves, and an opening that may migrate.
use Rattle.std.proofs.Common.{◌≡◌, IsTrue, inl, refl, sym, subst, false, ℕ, List, [], ◌∷◌, Option, Some, None, Err, IsPermutation, arith, codes, map}
use Rattle.std.specs.Prelude.{option_map, unwrap_or}
use Rattle.std.proofs.lemmas.List.Sorted.{IsPermutation-sym}
use Rattle.sqlite.specs.Order.{Row}
use Rattle.sqlite.specs.Table.{Table}
use Rattle.sqlite.specs.Tree.{rowid}
use Rattle.sqlite.specs.Effect.{Database}
use Rattle.sqlite.specs.State.{HasCleanDisk, State}
use Rattle.desk_store.specs.Desk.{CommitsAtMost, History}
use Rattle.desk_store.specs.History.{HoldsFirst, proposed_row}
use Rattle.desk_store.specs.Open.{Migrates}
use Rattle.desk_schema.specs.Tables.{table_in}
use Rattle.desk_store.specs.Tables.{AreKeys, IsKeyed, cells, rows_of}
use Rattle.desk_store.proofs.RowsRead.{none_left}

-- nothing was tried
pub commits_not : {T E : Type 0} (Change : Database → Database → Type 0) (s : State) (e : E) → s.in_transaction ≡ false → (HasCleanDisk s → IsTrue s.is_open → s.now ≡ s.committed) → CommitsAtMost {T = T} {E = E} Change s s (Err e)
commits_not Change s e autocommit settled = record {
  autocommit = autocommit;
  opened = λ clean live. live;
  settled = settled;
  made = λ clean. tt;
  live = λ clean. tt;
  durable = λ clean. tt;
  unchanged = λ clean live. refl;
  crash = record { clean = omega arith; shield = λ h. h; counts = omega arith; limit = refl; closes = λ clean live. inl live; crash = λ clean trees may. inl may };
}

none_there : (table : Table) (rows : List Row) → map (cells table) rows ≡ [] → map (λ row. rowid row ∷ []) rows ≡ []
none_there table [] e = refl
none_there table (row ∷ rows) e = absurd (cc)

no_rowids : (db : Database) (found : Option Table) → unwrap_or (option_map (λ (t : Table). map (cells t) (db.trees t.tree)) found) [] ≡ [] → unwrap_or (option_map (λ (t : Table). map (λ row. rowid row ∷ []) (db.trees t.tree)) found) [] ≡ []
no_rowids db None e = refl
no_rowids db (Some table) e = none_there table (db.trees table.tree) e

no_keys : AreKeys []
no_keys = record { whole = λ k d below. absurd (omega (arith, below)); apart = λ i j d less below. absurd (omega (arith, below)) }

-- a table without rows has no rowid twice
pub keyed_if_empty : (db : Database) (name : List ℕ) → rows_of db name ≡ [] → IsKeyed db name
keyed_if_empty db name empty = subst AreKeys (sym (no_rowids db (table_in db.schema name) empty)) no_keys

no_rows : (rows : List Row) → IsPermutation [] rows → rows ≡ []
no_rows rows same = none_left rows (IsPermutation-sym [] rows same)

-- a database that was migrated has no proposal
pub keyed_migrated : (old mid new : Database) (history : History) → mid ≡ old → Migrates mid new → HoldsFirst old history → IsKeyed new (codes "proposal")
keyed_migrated old mid new history same made first =
    let holds = made.holds history (subst (λ (db : Database). HoldsFirst db history) (sym same) first) in
    keyed_if_empty new (codes "proposal") (no_rows (rows_of new (codes "proposal")) (subst (λ proposals. IsPermutation (map proposed_row proposals) (rows_of new (codes "proposal"))) first.proposals holds.proposals))
