-- What opening a desk promises. (this project's own)
use Rattle.std.specs.Prelude.{◌≡◌, ◌≢◌, ◌⊎◌, ℕ, Bool, false, List, [], ◌∷◌, Contains, Result, Ok, Err, IsTrue, codes, pos, ◌==◌}
use Rattle.std.specs.List.{AllByRecursion}
use Rattle.std.specs.Option.{option_map_or}
use Rattle.sqlite_trees.specs.declared.store.Store.{Ghosts}
use Rattle.sqlite.specs.Held.{Held, state}
use Rattle.sqlite.specs.State.{State}
use Rattle.sqlite.specs.Change.{created}
use Rattle.sqlite.specs.Effect.{Database, IsDatabase}
use Rattle.sqlite.specs.Schema.{Schema}
use Rattle.sqlite.specs.Table.{Table}
use Rattle.sqlite.specs.Tree.{Trees}
use Rattle.sqlite.specs.Order.{Row}
use Rattle.sqlite.specs.declared.types.Value.TheVariants.{Int}
use Rattle.sqlite.specs.declared.error.Error.{Error}
use Rattle.sqlite.specs.declared.error.Error.TheVariants.{SqliteFailure}
use Rattle.sqlite.specs.declared.error.ErrorCode.TheVariants as code
use Rattle.desk_core.specs.declared.entry.Entry.{Entry}
use Rattle.desk_store.specs.Create.{HasLaterRoom, insert_version}
use Rattle.desk_store.specs.Desk.{IsSiteHistory, Shown, Stands}
use Rattle.desk_store.specs.Error.{Commit, IsSaid, Query, Statement, Step, TellsBy}
use Rattle.desk_store.specs.History.{Holds, HoldsFirst}
use Rattle.desk_store.specs.Looks.{select_nothing}
use Rattle.desk_schema.specs.Tables.{approval_table, create_approval, create_proposal, proposal_table, table_in}
use Rattle.desk_store.specs.Tables.{IsKeyed, SpareFrozen, delete_version, rows_of, select_approvals, select_proposal_keys, select_proposals, select_revisions, select_version, select_version_keys}
use Rattle.desk_store.specs.declared.error.DeskError.{DeskError}
use Rattle.desk_store.specs.declared.error.DeskError.TheVariants as error
use Rattle.desk_store.specs.declared.error.StoreFault.{StoreFault}
use Rattle.desk_store.specs.declared.error.Task.{Task}
use Rattle.desk_store.specs.declared.error.Task.TheVariants as task
use Rattle.desk_schema.specs.declared.declared.Version.{Version}
use Rattle.desk_schema.specs.declared.declared.Version.TheVariants as version

-- the number of a version, and the rows of `meta` that tell it
abbrev pub version_number : Version → ℕ
version_number version.First = 1
version_number version.Second = 2

abbrev pub version_rows : Version → List Row
version_rows own = (Int (pos (version_number own)) ∷ []) ∷ []

-- a schema with the two later tables, and the indexes of their keys, behind it
abbrev pub with_later : Schema → Schema
with_later schema = created (created schema (approval_table 0)) (proposal_table 0)

-- the table is `meta`
abbrev pub is_meta : Schema → Table → Bool
is_meta schema table = option_map_or (λ (t : Table). t.tree == table.tree) (table_in schema (codes "meta")) false

-- what reading rows may answer: they are not those of a database of this project, or there is no memory
abbrev pub IsOfRows : DeskError → Type 0
IsOfRows e = (e ≡ error.Schema) ⊎ (e ≡ error.Memory)

-- the statement is one that looks for the tables, reads them, or makes a database of version 1 one of version 2
abbrev pub IsLook : Task → Type 0
IsLook task.AddEntry = ⊥
IsLook task.MakeTables = ⊥
IsLook task.Migrate = Unit {0}
IsLook task.ReadRevisions = Unit {0}
IsLook task.FindTables = Unit {0}
IsLook task.ReadVersion = Unit {0}

-- what opening may answer: the database is not one of this project, there is no memory, or a statement that looks or migrates was
-- refused for another cause
abbrev pub IsOfOpening : DeskError → Type 0
IsOfOpening e = (e ≡ error.Schema) ⊎ ((e ≡ error.Memory) ⊎ ((fault : StoreFault) × IsLook fault.task × (fault.error ≢ SqliteFailure code.OutOfMemory) × (e ≡ error.Store fault)))

-- the queries that tell the version of a database: one by which its schema is read, and the one of `meta`
abbrev pub version_queries : List Statement
version_queries = Query select_nothing [] ∷ Query select_version [] ∷ []

-- the statements of an opening: those, the queries of the other tables and of rowids, and what makes a database of version 1 one of
-- version 2, in one transaction
abbrev pub opening_statements : List Statement
opening_statements =
    Query select_nothing [] ∷ Query select_version [] ∷ Query select_version_keys [] ∷ Query select_proposal_keys [] ∷ Query select_revisions [] ∷ Query select_approvals []
    ∷ Query select_proposals [] ∷ Step create_approval [] ∷ Step create_proposal [] ∷ Step delete_version [] ∷ Step insert_version [] ∷ Commit ∷ []

-- the rowids of `meta`, or those of `proposal`, are not integers of which none comes twice
abbrev pub HasBadKeys : Database → Type 0
HasBadKeys db = (IsKeyed db (codes "meta") → ⊥) ⊎ (IsKeyed db (codes "proposal") → ⊥)

-- The error of a fault in an opening: what SQLite said of one of its statements; or that the file is damaged, if it has such rowids;
-- or that a name is taken, if the two later tables cannot be made.
abbrev pub IsOpeningError : {S : Type 0} (g : Ghosts S) → Held S → Held S → Error → Type 0
IsOpeningError g old new e =
    IsSaid g (Contains opening_statements) old new e
    ⊎ (((e ≡ SqliteFailure code.DatabaseCorrupt) × HasBadKeys (state g old).committed) ⊎ ((e ≡ SqliteFailure code.NameTaken) × (HasLaterRoom (state g old).committed.schema → ⊥)))

-- a fault in an opening is told by such an error
abbrev pub TellsOpening : {S : Type 0} (g : Ghosts S) → Held S → Held S → DeskError → Type 0
TellsOpening g old new e = TellsBy (IsOpeningError g old new) e

-- Out of memory is told if SQLite said so when it was asked for the version, and else only of a database that tells version 1 or 2. (One
-- of another version is not of this project.)
abbrev pub TellsMemory : {S : Type 0} (g : Ghosts S) → Held S → Held S → Type 0
TellsMemory g old new =
    IsSaid g (Contains version_queries) old new (SqliteFailure code.OutOfMemory)
    ⊎ ((version : Version) × (rows_of (state g old).committed (codes "meta") ≡ version_rows version))

-- a database of this project with this history, of this version or the one before
pub record IsProject (db : Database) (history : List Entry) : Type 0 where
  pub holds : Holds db history ⊎ HoldsFirst db history
  pub stored : IsSiteHistory history

-- the connection of the desk, or that which is handed back beside the error
abbrev pub held_in : {S V E : Type 0} → Result (Shown S V) (E × Held S) → Held S
held_in (Ok desk) = desk.conn
held_in (Err both) = both.1

-- the database is one of this project
abbrev pub IsOurs : Database → Type 0
IsOurs db = (history : List Entry) × IsProject db history

-- What a migration makes of a database of version 1: it holds the same history in the four tables, and has else what it had: its
-- schema with the two later tables behind it, its other tables with their rows, and all that SQL here does not understand.
pub record Migrates (old new : Database) : Type 0 where
  pub holds : (history : List Entry) → HoldsFirst old history → Holds new history
  pub schema : new.schema ≡ with_later old.schema
  pub others : AllByRecursion (λ t. is_meta old.schema t ≡ false → new.trees t.tree ≡ old.trees t.tree) old.schema.tables
  pub steps : List Database
  pub frozen : SpareFrozen old steps new
  pub sound : IsDatabase new

-- a database is of version 1
abbrev pub IsFirst : Database → Type 0
IsFirst db = (history : List Entry) × HoldsFirst db history × IsSiteHistory history

-- what opening makes of a database of this project: one of version 1 is migrated, and one of this version stays as it is
abbrev pub LeavesOpened : Database → Database → Type 0
LeavesOpened old new = (IsFirst old × Migrates old new) ⊎ ((IsFirst old → ⊥) × (new ≡ old))

-- the one commit of an opening: the migration of a database of version 1, of a site's history
abbrev pub MayMigrate : State → Trees → Type 0
MayMigrate old trees = IsTrue old.is_open × IsFirst old.committed × ((after : Database) × Migrates old.committed after × (trees ≡ after.trees))

-- a desk that was opened on this database stands at its history, in whatever order that is told, and nothing is without an answer
abbrev pub OpensAt : {S V : Type 0} (g : Ghosts S) → Database → Shown S V → Type 0
OpensAt g db desk = IsOurs db × ((history : List Entry) → IsProject db history → Stands (state g desk.conn) desk.state history [])
