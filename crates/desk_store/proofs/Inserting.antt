-- What the INSERTs and DELETEs of the desk do to what a connection sees.
use Rattle.std.proofs.Common.{◌≡◌, ◌∙◌, ap, sym, subst, refl, ℕ, ◌<◌, ◌^◌, ◌/◌, nat_le, Bool, true, false, codes, List, [], ◌∷◌, length, slice_get, Some, None, Ok, arith}
use Rattle.std.specs.List.{list_all}
use Rattle.std.proofs.lemmas.Bool.{lt-leb}
use Rattle.sqlite.specs.declared.types.Value.{Value}
use Rattle.sqlite.specs.declared.types.Value.TheVariants.{Null, Text as Words}
use Rattle.sqlite.specs.Order.{Row, column, value_cmp}
use Rattle.sqlite.specs.Term.{Term, holds}
use Rattle.sqlite.specs.Table.{Table}
use Rattle.sqlite.specs.Effect.{Database, IsDatabase, SparesFrozen, value_rows}
use Rattle.sqlite.specs.Rows.{stamped}
use Rattle.sqlite.specs.State.{State, Writes, Executes, mode_of}
use Rattle.sqlite.specs.Command.TheVariants.{Delete, Insert}
use Rattle.sqlite.specs.Source.TheVariants.{Values}
use Rattle.sqlite.specs.Listing.{understood}
use Rattle.sqlite.proofs.Callers.{runs_as, statement_of}
use Rattle.sqlite_schema.specs.Names.{table_named}
use Rattle.sqlite_rules.specs.Cast.{cast_row}
use Rattle.std.specs.Ordering.{is_eq}
use Rattle.desk_store.proofs.DeleteEffect.{Takes, deleting, does_delete}
use Rattle.desk_store.proofs.DeleteText.{DeletesAnywhere, delete_proposal_means, delete_version_means}
use Rattle.desk_store.proofs.InsertEffect.{Puts, cast_int, cast_null, does_insert}
use Rattle.desk_store.proofs.InsertText.{InsertsAnywhere, approval_means, approval_terms, proposal_means, proposal_terms, revision_means, revision_terms}
use Rattle.desk_store.proofs.NamedRows.{file_passes, file_test}
use Rattle.desk_store.proofs.Placed.{placed, rowids_are}
use Rattle.desk_schema.specs.Tables.{Declares, approval_table, file_rev_table, meta_table, proposal_table, refers_to}
use Rattle.desk_store.specs.Tables.{AreKeys, IsKeyed, approval_row, cells, delete_proposal, delete_version, insert_approval, insert_proposal, insert_revision, proposal_row, revision_row}

pub low_tree : (tree : ℕ) → tree < 65536 → nat_le (2 ^ 31) tree ≡ false
low_tree tree low = lt-leb (2 ^ 31) tree (omega arith)

-- a statement did this, spared what SQL here does not understand, and left a database that can be opened
pub record Soundly (Did : Database → Database → Type 0) (old new : Database) : Type 0 where
  pub did : Did old new
  pub frozen : SparesFrozen old new
  pub sound : IsDatabase new

-- a table that is declared
module _ (old new : State) (name : List ℕ) (table : ℕ → Table) (tree : ℕ) (declared : Declares old.now.schema name table tree) (params : Row) (count : ℕ) where
  abbrev at : (at : ℕ) × (table_named old.now.schema name ≡ Some at) × (slice_get old.now.schema.tables at ≡ Some (table tree))
  at = placed old.now.schema name (table tree) declared.there

  pub inserts : (sql : List ℕ) (terms : List Term) (width : ℕ) (source row : Row) → InsertsAnywhere sql name table terms width → (table tree).is_counted ≡ false
      → value_rows (stamped (table tree) params) width (length terms / width) terms ≡ source ∷ [] → cast_row (table tree) source ≡ Null ∷ row → ((id : Value) → cells (table tree) (id ∷ row) ≡ row)
      → Executes sql params old new (Ok count) → Soundly (Puts (table tree) row) old.now new.now
  inserts sql terms width source row means uncounted sourced laid columns h =
      let it = means old.now.schema at.0 tree at.1 at.2 in
      let w : Writes old new None (Insert at.0 (Values terms width)) (statement_of sql (understood old.now.schema sql)) params count = runs_as sql params old new old.now.schema refl (Insert at.0 (Values terms width)) it.is it.plain count h in
      record { did = does_insert old.step_limit (mode_of old) params (statement_of sql (understood old.now.schema sql)) old.now new.now w.tally at.0 (table tree) terms width source row uncounted sourced laid columns at.2 w.changed; frozen = w.frozen; sound = w.sound }

  pub deletes : (sql : List ℕ) (tests : List Term) (test : Row → Bool) → DeletesAnywhere sql name table tests → ((n : ℕ) → (table n).tree ≡ n) → ((row : Row) → list_all (holds (params ∷ row ∷ [])) tests ≡ test row)
      → refers_to old.now.schema name ≡ false → IsKeyed old.now name → Executes sql params old new (Ok count) → Soundly (Takes tree test) old.now new.now
  deletes sql tests test means own_tree passes unreferred keyed h = subst (λ n. Soundly (Takes n test) old.now new.now) (own_tree tree) (
      let it = means old.now.schema at.0 tree at.1 at.2 declared.alone (low_tree tree declared.low) in
      let is = it.is ∙ ap (λ n. Delete at.0 (deleting tests n)) (sym (own_tree tree)) in
      let w : Writes old new None (Delete at.0 (deleting tests (table tree).tree)) (statement_of sql (understood old.now.schema sql)) params count = runs_as sql params old new old.now.schema refl (Delete at.0 (deleting tests (table tree).tree)) is it.plain count h in
      record {
        did = does_delete old.step_limit (mode_of old) params (statement_of sql (understood old.now.schema sql)) old.now new.now w.tally at.0 name (table tree) tests test passes at.2 (rw (own_tree tree) (declared.own)) unreferred
            (rw (own_tree tree) (low_tree tree declared.low)) (subst AreKeys (rowids_are old.now name (table tree) declared.there) keyed) w.changed;
        frozen = w.frozen;
        sound = w.sound;
      })

-- ---- the rows of an entry, each of whose INSERTs is given the row itself

revision_cast : (tree : ℕ) (file : List ℕ) (rev : ℕ) (author : List ℕ) (profile : ℕ) (body : List ℕ)
    → cast_row (file_rev_table tree) (Null ∷ revision_row file rev author profile body) ≡ Null ∷ revision_row file rev author profile body
revision_cast tree file rev author profile body = rw (cast_null, cast_int rev, cast_int profile)

approval_cast : (tree : ℕ) (file : List ℕ) (rev : ℕ) (approver : List ℕ) → cast_row (approval_table tree) (Null ∷ approval_row file rev approver) ≡ Null ∷ approval_row file rev approver
approval_cast tree file rev approver = rw (cast_null, cast_int rev)

proposal_cast : (tree : ℕ) (file : List ℕ) (base : ℕ) (author body : List ℕ) → cast_row (proposal_table tree) (Null ∷ proposal_row file base author body) ≡ Null ∷ proposal_row file base author body
proposal_cast tree file base author body = rw (cast_null, cast_int base)

-- the rows of the table of proposals that are of a file, with their rowids
abbrev pub is_proposal_of : List ℕ → Row → Bool
is_proposal_of file row = is_eq (value_cmp (column row 1) (Words file))

module _ (old new : State) (tree count : ℕ) where
  pub revision_put : (file : List ℕ) (rev : ℕ) (author : List ℕ) (profile : ℕ) (body : List ℕ) → Declares old.now.schema (codes "file_rev") file_rev_table tree
      → Executes insert_revision (revision_row file rev author profile body) old new (Ok count) → Soundly (Puts (file_rev_table tree) (revision_row file rev author profile body)) old.now new.now
  revision_put file rev author profile body declared =
      inserts old new (codes "file_rev") file_rev_table tree declared (revision_row file rev author profile body) count insert_revision revision_terms 6 (Null ∷ revision_row file rev author profile body) (revision_row file rev author profile body) revision_means refl refl
      (revision_cast tree file rev author profile body) (λ id. refl)

  pub approval_put : (file : List ℕ) (rev : ℕ) (approver : List ℕ) → Declares old.now.schema (codes "approval") approval_table tree
      → Executes insert_approval (approval_row file rev approver) old new (Ok count) → Soundly (Puts (approval_table tree) (approval_row file rev approver)) old.now new.now
  approval_put file rev approver declared =
      inserts old new (codes "approval") approval_table tree declared (approval_row file rev approver) count insert_approval approval_terms 4 (Null ∷ approval_row file rev approver) (approval_row file rev approver) approval_means refl refl
      (approval_cast tree file rev approver) (λ id. refl)

  pub proposal_put : (file : List ℕ) (base : ℕ) (author body : List ℕ) → Declares old.now.schema (codes "proposal") proposal_table tree
      → Executes insert_proposal (proposal_row file base author body) old new (Ok count) → Soundly (Puts (proposal_table tree) (proposal_row file base author body)) old.now new.now
  proposal_put file base author body declared =
      inserts old new (codes "proposal") proposal_table tree declared (proposal_row file base author body) count insert_proposal proposal_terms 5 (Null ∷ proposal_row file base author body) (proposal_row file base author body) proposal_means refl refl
      (proposal_cast tree file base author body) (λ id. refl)

  -- the proposal of a file is taken out
  pub proposal_taken : (file : List ℕ) → Declares old.now.schema (codes "proposal") proposal_table tree → refers_to old.now.schema (codes "proposal") ≡ false → IsKeyed old.now (codes "proposal")
      → Executes delete_proposal (Words file ∷ []) old new (Ok count) → Soundly (Takes tree (is_proposal_of file)) old.now new.now
  proposal_taken file declared = deletes old new (codes "proposal") proposal_table tree declared (Words file ∷ []) count delete_proposal (file_test ∷ []) (is_proposal_of file) delete_proposal_means (λ n. refl) (file_passes file)

  -- each row of the version is taken out
  pub versions_taken : Declares old.now.schema (codes "meta") meta_table tree → refers_to old.now.schema (codes "meta") ≡ false → IsKeyed old.now (codes "meta")
      → Executes delete_version [] old new (Ok count) → Soundly (Takes tree (λ row. true)) old.now new.now
  versions_taken declared = deletes old new (codes "meta") meta_table tree declared [] count delete_version [] (λ row. true) delete_version_means (λ n. refl) (λ row. refl)
