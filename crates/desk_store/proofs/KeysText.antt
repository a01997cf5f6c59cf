-- What the queries for the rowids of a table mean, whatever other tables the schema has.
use Rattle.std.proofs.Common.{◌≡◌, ◌^◌, ◌==◌, ℕ, List, [], ◌∷◌, Some, None, Ok, true, false, nat_le, nat_lt, codes, slice_get, option_and_then, refl}
use Rattle.std.specs.List.{find}
use Rattle.sqlite.specs.Compile.{first, read}
use Rattle.sqlite.specs.Command.TheVariants.{Select}
use Rattle.sqlite.specs.Schema.{Schema}
use Rattle.sqlite.specs.Table.{Table}
use Rattle.sqlite.specs.Term.{col}
use Rattle.sqlite_schema.specs.Names.{same_name, table_named}
use Rattle.sqlite_tied.specs.Compute.{everything}
use Rattle.sqlite_resolve.specs.Body as body
use Rattle.sqlite_resolve.specs.Expr.{lower}
use Rattle.sqlite_resolve.specs.Lowering.{max_budget, nothing}
use Rattle.sqlite_resolve.specs.Program as program
use Rattle.sqlite_resolve.specs.Scope as scope
use Rattle.sqlite_resolve.specs.Scope.{column}
use Rattle.sqlite_resolve.specs.declared.scope.Found.TheVariants.{Rowid}
use Rattle.sqlite_resolve.specs.declared.scope.Output.{Output}
use Rattle.sqlite_resolve.specs.declared.state.Carried.{Carried}
use Rattle.desk_store.proofs.QueryText.{Opens, at, column_open, draft, means_so, name_lowered, no_tests, one_read, own_column, own_table, parsed, select, shown_open, within}
use Rattle.desk_store.proofs.SelectText.{MeansAnywhere, key_columns, key_names, q}
use Rattle.desk_schema.specs.Tables.{meta_table, proposal_table}
use Rattle.desk_store.specs.Tables.{select_proposal_keys, select_version_keys}

abbrev key : List ℕ
key = codes "rowid"

proposal_first : first select_proposal_keys ≡ Ok (parsed (codes "proposal") (own_column key ∷ []) None [] 26)
unfolding everything
proposal_first = refl

version_first : first select_version_keys ≡ Ok (parsed (codes "meta") (own_column key ∷ []) None [] 22)
unfolding everything
version_first = refl

abbrev key_output : Output
key_output = record { name = key; is_alias = false; is_column = true; term = col 1 0; carried = nothing }

-- `rowid` is the rowid of a table: it has no column of this name, and no column is its rowid
record HasKey (schema : Schema) (name : List ℕ) (place : ℕ) : Type 0 where
  found : scope.find (within schema name place [] true) None key ≡ Ok (Rowid 1 place)
  read : (budget : ℕ) (last : Carried) → column (within schema name place [] true) None key (at budget last) ≡ Ok (col 1 0, at budget nothing)
  unnamed : body.declared schema place (option_and_then (λ (t : Table). t.key) (slice_get schema.tables place)) ≡ None

-- a query for the rowids of a table
module _ (schema : Schema) (name : List ℕ) (place : ℕ) (table : Table) (found : table_named schema name ≡ Some place) (there : slice_get schema.tables place ≡ Some table) (has : HasKey schema name place)
    (opens : Opens name (own_column key ∷ []) None) where
  key_shown : body.outputs lower (within schema name place [] true) (own_table name place ∷ []) (own_column key ∷ []) (at max_budget nothing) ≡ Ok (key_output ∷ [], at 99999 nothing)
  unfolding body.outputs body.shown body.heading body.is_column
  key_shown =
      rw (shown_open key, name_lowered schema name place table found there 699 key (col 1 0) nothing [] true has.read max_budget nothing refl, column_open key, has.found, has.unnamed)

  keys_read : program.program schema [] (draft schema name place table found there [] key_columns) ≡ Ok (record { lets = []; body = q key_columns table.tree })
      → read schema (select name (own_column key ∷ []) None) ≡ Ok (Select (record { lets = []; body = q key_columns table.tree }) key_names)
  keys_read accepted =
      one_read schema name place table found there (own_column key ∷ []) (key_output ∷ []) 99999 nothing None [] 99999 nothing opens key_shown
      (no_tests schema name place table found there (key_output ∷ []) 99999 nothing) (record { lets = []; body = q key_columns table.tree }) accepted

proposal_open : Opens (codes "proposal") (own_column key ∷ []) None
unfolding everything
proposal_open = refl

proposal_has_key : (schema : Schema) (place tree : ℕ) → slice_get schema.tables place ≡ Some (proposal_table tree) → nat_lt tree (2 ^ 31) ≡ true → HasKey schema (codes "proposal") place
unfolding scope.find scope.in_level scope.only scope.hit scope.column_in scope.is_among scope.is_rowid scope.rowid_in same_name column scope.term_of body.declared
proposal_has_key schema place tree there under = record { found = rw (there, under); read = λ budget last. rw (there, under); unnamed = rw there }

proposal_accepted : (schema : Schema) (place tree : ℕ) (found : table_named schema (codes "proposal") ≡ Some place) (there : slice_get schema.tables place ≡ Some (proposal_table tree))
    → find (λ (t : Table). t.tree == tree) schema.tables ≡ Some (proposal_table tree) → nat_le (2 ^ 31) tree ≡ false
    → program.program schema [] (draft schema (codes "proposal") place (proposal_table tree) found there [] key_columns) ≡ Ok (record { lets = []; body = q key_columns tree })
unfolding program.program
proposal_accepted schema place tree found there alone low = rw (low, alone)

pub proposal_keys_mean : MeansAnywhere select_proposal_keys (codes "proposal") proposal_table (q key_columns) key_names
proposal_keys_mean schema place tree found there alone low under =
    means_so select_proposal_keys (parsed (codes "proposal") (own_column key ∷ []) None [] 26) (select (codes "proposal") (own_column key ∷ []) None) proposal_first refl refl schema tree (q key_columns) key_names
    (keys_read schema (codes "proposal") place (proposal_table tree) found there (proposal_has_key schema place tree there under) proposal_open (proposal_accepted schema place tree found there alone low))

version_open : Opens (codes "meta") (own_column key ∷ []) None
unfolding everything
version_open = refl

version_has_key : (schema : Schema) (place tree : ℕ) → slice_get schema.tables place ≡ Some (meta_table tree) → nat_lt tree (2 ^ 31) ≡ true → HasKey schema (codes "meta") place
unfolding scope.find scope.in_level scope.only scope.hit scope.column_in scope.is_among scope.is_rowid scope.rowid_in same_name column scope.term_of body.declared
version_has_key schema place tree there under = record { found = rw (there, under); read = λ budget last. rw (there, under); unnamed = rw there }

version_accepted : (schema : Schema) (place tree : ℕ) (found : table_named schema (codes "meta") ≡ Some place) (there : slice_get schema.tables place ≡ Some (meta_table tree))
    → find (λ (t : Table). t.tree == tree) schema.tables ≡ Some (meta_table tree) → nat_le (2 ^ 31) tree ≡ false
    → program.program schema [] (draft schema (codes "meta") place (meta_table tree) found there [] key_columns) ≡ Ok (record { lets = []; body = q key_columns tree })
unfolding program.program
version_accepted schema place tree found there alone low = rw (low, alone)

pub version_keys_mean : MeansAnywhere select_version_keys (codes "meta") meta_table (q key_columns) key_names
version_keys_mean schema place tree found there alone low under =
    means_so select_version_keys (parsed (codes "meta") (own_column key ∷ []) None [] 22) (select (codes "meta") (own_column key ∷ []) None) version_first refl refl schema tree (q key_columns) key_names
    (keys_read schema (codes "meta") place (meta_table tree) found there (version_has_key schema place tree there under) version_open (version_accepted schema place tree found there alone low))
