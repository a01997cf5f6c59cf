-- The table that a schema has under a name, and its rows.
use Rattle.std.proofs.Common.{◌≡◌, ◌<◌, ◌^◌, ◌∙◌, ℕ, ℤ, pos, List, [], ◌∷◌, map, slice_get, Some, None, refl, ap, arith, w64, to_z, of_z}
use Rattle.std.proofs.lemmas.Int.{to_z_pos}
use Rattle.std.specs.Prelude.{option_and_then, option_map, unwrap_or}
use Rattle.sqlite.specs.Schema.{Schema}
use Rattle.sqlite.specs.Table.{Table}
use Rattle.sqlite.specs.Effect.{Database}
use Rattle.sqlite.specs.Tree.{rowid}
use Rattle.sqlite_schema.specs.Names.{table_named}
use Rattle.desk_schema.specs.Tables.{table_in}
use Rattle.desk_store.specs.Tables.{cells, rowids_of, rows_of}

-- the place of a table that is found by its name
pub placed : (schema : Schema) (name : List ℕ) (table : Table) → table_in schema name ≡ Some table
    → (at : ℕ) × (table_named schema name ≡ Some at) × (slice_get schema.tables at ≡ Some table)
placed schema name table = elim (table_named schema name) as (λ o. option_and_then (slice_get schema.tables) o ≡ Some table → (at : ℕ) × (o ≡ Some at) × (slice_get schema.tables at ≡ Some table)) [
  | Some at ↦ λ h. (at, refl, h)
  | None ↦ λ h. absurd (cc)
]

pub rows_are : (db : Database) (name : List ℕ) (table : Table) → table_in db.schema name ≡ Some table → rows_of db name ≡ map (cells table) (db.trees table.tree)
rows_are db name table found = ap (λ o. unwrap_or (option_map (λ (t : Table). map (cells t) (db.trees t.tree)) o) []) found

pub rowids_are : (db : Database) (name : List ℕ) (table : Table) → table_in db.schema name ≡ Some table → rowids_of db name ≡ map (λ row. rowid row ∷ []) (db.trees table.tree)
rowids_are db name table found = ap (λ o. unwrap_or (option_map (λ (t : Table). map (λ row. rowid row ∷ []) (db.trees t.tree)) o) []) found

-- a low number is bound as itself
pub signed : (x : ℤ) (n : ℕ) → x ≡ pos n → n < 2 ^ 32 → to_z w64 (of_z w64 x) ≡ pos n
signed x n e low = ap (λ z. to_z w64 (of_z w64 z)) e ∙ to_z_pos w64 n (omega arith)
