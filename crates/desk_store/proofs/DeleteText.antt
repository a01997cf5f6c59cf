-- What the two DELETEs mean, whatever other tables the schema has.
use Rattle.std.proofs.Common.{nat_le, ◌^◌, ◌≡◌, ap, subst, sym, refl, Some, None, Ok, ℕ, slice_get, codes, List, [], ◌∷◌, ◌==◌, false}
use Rattle.std.specs.List.{find}
use Rattle.sqlite.specs.Schema.{Schema}
use Rattle.sqlite.specs.Table.{Table}
use Rattle.sqlite.specs.Term.{Term, col}
use Rattle.sqlite.specs.Compile.{command, compiled, delete, first, meaning, planned, returning, shows, timed, with_command}
use Rattle.sqlite.specs.Command.TheVariants.{Delete}
use Rattle.sqlite.specs.Listing.{understood}
use Rattle.sqlite.proofs.Callers.{IsPlain, command_of}
use Rattle.sqlite_schema.specs.Names.{same_name, table_named}
use Rattle.sqlite_tied.specs.Compute.{everything}
use Rattle.sqlite_syntax.specs.declared.statement.Parsed.{Parsed}
use Rattle.sqlite_ast.specs.declared.Statement.TheVariants as statement
use Rattle.sqlite_draft.specs.declared.query.Draft.{Draft}
use Rattle.sqlite_resolve.specs.Body as body
use Rattle.sqlite_resolve.specs.Compare as compare
use Rattle.sqlite_resolve.specs.Lowering.{max_budget, nothing}
use Rattle.sqlite_resolve.specs.Program as program
use Rattle.sqlite_resolve.specs.Scope as scope
use Rattle.sqlite_resolve.specs.Scope.{column}
use Rattle.sqlite_resolve.specs.Write as write
use Rattle.desk_store.proofs.NamedRows.{file_test}
use Rattle.desk_store.proofs.NamedText.{of_file}
use Rattle.desk_store.proofs.QueryText.{IsColumn, IsPlainTest, draft, one_equal}
use Rattle.desk_store.proofs.DeleteEffect.{deleting}
use Rattle.desk_schema.specs.Tables.{meta_table, proposal_table}
use Rattle.desk_store.specs.Tables.{delete_proposal, delete_version}

-- what the text of a DELETE from the table at this place means
pub record MeansToDelete (sql : List ℕ) (tests : List Term) (schema : Schema) (at tree : ℕ) : Type 0 where
  pub is : command_of (understood schema sql) ≡ Delete at (deleting tests tree)
  pub plain : IsPlain (understood schema sql)

-- it means that whatever other tables the schema has
abbrev pub DeletesAnywhere : List ℕ → List ℕ → (ℕ → Table) → List Term → Type 0
DeletesAnywhere sql name table tests =
    (schema : Schema) (at tree : ℕ) → table_named schema name ≡ Some at → slice_get schema.tables at ≡ Some (table tree)
    → find (λ (t : Table). t.tree == tree) schema.tables ≡ Some (table tree) → nat_le (2 ^ 31) tree ≡ false → MeansToDelete sql tests schema at tree

pub delete_version_means : DeletesAnywhere delete_version (codes "meta") meta_table []
unfolding understood everything
delete_version_means schema at tree found there alone low = record { is = rw (found, there, low, alone); plain = rw (found, there, low, alone) (refl, refl) }

-- ---- the one with WHERE

abbrev delete_parsed : Parsed
delete_parsed = record { statement = statement.Delete (codes "proposal") (Some of_file) []; names = codes "?1" ∷ []; formats = []; start = 0; end = 36; tail = 36 }

delete_first : first delete_proposal ≡ Ok delete_parsed
unfolding everything
delete_first = refl

module _ (schema : Schema) (place tree : ℕ) (found : table_named schema (codes "proposal") ≡ Some place) (there : slice_get schema.tables place ≡ Some (proposal_table tree)) where
  proposal_file : IsColumn schema (codes "proposal") place (codes "file") 0 1
  unfolding scope.find scope.in_level scope.only scope.hit scope.column_in scope.is_among same_name column scope.term_of scope.column_at body.declared
  proposal_file = record { found = λ shown may_aggregate. rw there; read = λ shown may_aggregate budget last. rw (there, there); declared = rw there }

  proposal_plain : IsPlainTest schema (codes "proposal") place 1 0
  unfolding compare.compared compare.affinity_of compare.of_column compare.converted compare.may_be_text compare.spelled compare.is_parameter
  proposal_plain shown = rw there

  -- the rowids of the rows that pass
  abbrev deleted_draft : Draft
  deleted_draft = draft schema (codes "proposal") place (proposal_table tree) found there (file_test ∷ []) (col 1 0 ∷ [])

  drafted : write.deleted schema place (proposal_table tree) (Some of_file) ≡ Ok deleted_draft
  unfolding write.deleted write.picked body.tests
  drafted = rw (one_equal schema (codes "proposal") place (proposal_table tree) found there 698 (codes "file") 0 1 1 proposal_file proposal_plain [] max_budget nothing refl refl refl)

  module _ (alone : find (λ (t : Table). t.tree == tree) schema.tables ≡ Some (proposal_table tree)) (low : nat_le (2 ^ 31) tree ≡ false) where
    accepted : program.program schema [] deleted_draft ≡ Ok (deleting (file_test ∷ []) tree)
    unfolding program.program
    accepted = rw (low, alone)

    planned_so : planned schema delete_parsed ≡ Ok ([], (Delete place (deleting (file_test ∷ []) tree), None))
    unfolding planned timed meaning returning shows command delete
    planned_so = rw (found, there, drafted, accepted)

    understood_so : understood schema delete_proposal ≡ Ok (with_command delete_parsed ([], (Delete place (deleting (file_test ∷ []) tree), None)))
    unfolding understood compiled
    understood_so = rw (delete_first, planned_so)

pub delete_proposal_means : DeletesAnywhere delete_proposal (codes "proposal") proposal_table (file_test ∷ [])
delete_proposal_means schema at tree found there alone low =
    let known = understood_so schema at tree found there alone low in record { is = ap command_of known; plain = subst IsPlain (sym known) (refl, refl) }
