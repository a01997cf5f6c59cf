-- What the INSERT of the version does, whatever other tables the schema has.
use Rattle.std.proofs.Common.{◌≡◌, ◌∙◌, ap, refl, ℕ, ◌+◌, pos, List, [], ◌∷◌, map, codes, Ok}
use Rattle.sqlite.specs.Compile.{first, new_rows, small}
use Rattle.sqlite.specs.Effect.{Database}
use Rattle.sqlite.specs.Schema.{Schema}
use Rattle.sqlite.specs.Source.TheVariants.{Values}
use Rattle.sqlite.specs.State.{Executes, State}
use Rattle.sqlite.specs.Term.{Term, lit}
use Rattle.sqlite.specs.Tree.{put_row}
use Rattle.sqlite.specs.declared.types.Value.TheVariants.{Null, Int}
use Rattle.sqlite_ast.specs.declared.Expr.{Expr}
use Rattle.sqlite_ast.specs.declared.Expr.TheVariants.{Integer}
use Rattle.sqlite_ast.specs.declared.Rows.TheVariants as written
use Rattle.sqlite_rules.specs.Cast.{cast_row}
use Rattle.sqlite_tied.specs.Compute.{everything}
use Rattle.desk_store.specs.Create.{insert_version}
use Rattle.desk_schema.specs.Tables.{Declares, meta_table}
use Rattle.desk_store.specs.Tables.{cells, rows_of}
use Rattle.desk_store.proofs.InsertEffect.{Puts, cast_int, cast_null, numbered_row}
use Rattle.desk_store.proofs.InsertText.{InsertsAnywhere, inserting, means_to_insert}
use Rattle.desk_store.proofs.Inserting.{Soundly, inserts}
use Rattle.desk_store.proofs.Placed.{rows_are}

abbrev version_columns : List (List ℕ)
version_columns = codes "version" ∷ []

abbrev two : List Expr
two = Integer (codes "2") ∷ []

abbrev version_terms : List Term
version_terms = lit Null ∷ lit (Int (pos 2)) ∷ []

version_first : first insert_version ≡ Ok (inserting (codes "meta") version_columns two [] 35)
unfolding everything
version_first = refl

version_laid : (schema : Schema) (tree : ℕ) → new_rows schema (meta_table tree) (small [] + 0) version_columns (written.Values (two ∷ [])) ≡ Ok (Values version_terms 2)
unfolding everything
version_laid schema tree = refl

version_means : InsertsAnywhere insert_version (codes "meta") meta_table version_terms 2
version_means = means_to_insert insert_version (codes "meta") version_columns two [] 35 meta_table version_terms 2 version_first (λ tree. refl) version_laid

version_cast : (tree : ℕ) → cast_row (meta_table tree) (Null ∷ Int (pos 2) ∷ []) ≡ Null ∷ Int (pos 2) ∷ []
version_cast tree = rw (cast_null, cast_int 2)

pub version_put : (old new : State) (tree count : ℕ) → Declares old.now.schema (codes "meta") meta_table tree → Executes insert_version [] old new (Ok count) → Soundly (Puts (meta_table tree) (Int (pos 2) ∷ [])) old.now new.now
version_put old new tree count declared =
    inserts old new (codes "meta") meta_table tree declared [] count insert_version version_terms 2 (Null ∷ Int (pos 2) ∷ []) (Int (pos 2) ∷ []) version_means refl refl (version_cast tree) (λ id. refl)

-- where no version was, that is the only one then
pub only_version : (old new : Database) (tree : ℕ) → Declares new.schema (codes "meta") meta_table tree → old.trees tree ≡ [] → Puts (meta_table tree) (Int (pos 2) ∷ []) old new → rows_of new (codes "meta") ≡ (Int (pos 2) ∷ []) ∷ []
only_version old new tree declared none puts =
    rows_are new (codes "meta") (meta_table tree) declared.there ∙ ap (map (cells (meta_table tree))) (puts.rows ∙ ap (λ rows. put_row (numbered_row rows (Int (pos 2) ∷ [])) rows) none)
