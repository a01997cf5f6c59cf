-- What the queries read of a database with the tables of version 1, or with all four.
use Rattle.std.proofs.Common.{◌≡◌, ◌^◌, ◌<◌, ◌∙◌, ℕ, pos, Bool, List, [], ◌∷◌, Some, true, false, nat_le, nat_lt, codes, filter, map, ap, arith, sym, subst}
use Rattle.std.specs.Prelude.{IsPermutation}
use Rattle.std.proofs.lemmas.Bool.{lt-leb, lt-ltb}
use Rattle.sqlite.specs.Effect.{Database, Reads}
use Rattle.sqlite.specs.Command.{Command}
use Rattle.sqlite.specs.Order.{Row}
use Rattle.sqlite.specs.Program.{IsProgramAnswer}
use Rattle.sqlite.specs.Query.{Query}
use Rattle.sqlite.specs.Schema.{Schema}
use Rattle.sqlite.specs.Table.{Table}
use Rattle.sqlite.specs.Tree.{Trees, rowid}
use Rattle.sqlite.specs.declared.types.Value.TheVariants.{Int, Text as Words}
use Rattle.sqlite.proofs.Callers.{command_of}
use Rattle.desk_store.proofs.KeysText.{proposal_keys_mean, version_keys_mean}
use Rattle.desk_store.proofs.NamedRows.{approver_answered, approvers_answered, numbers_answered, revision_answered}
use Rattle.desk_store.proofs.NamedText.{approver_means, approver_names, approver_query, approvers_mean, approvers_names, approvers_query, numbers_mean, numbers_names, numbers_query, revision_means, revision_names, revision_query}
use Rattle.desk_store.proofs.Placed.{placed, rowids_are, rows_are}
use Rattle.desk_store.proofs.SelectText as whole
use Rattle.desk_store.proofs.SelectText.{Means, MeansAnywhere, q, key_names}
use Rattle.desk_store.specs.Looks.{IsLook, approver_in, approver_of, approvers_in, author_profile_and_text, is_at, is_of, number_and_approver, number_author_and_profile, numbers_in, revision_in, select_approver, select_approvers, select_numbers, select_revision}
use Rattle.desk_schema.specs.Tables.{Declares, HasThese, approval_table, file_rev_table, meta_table, proposal_table, table_in}
use Rattle.desk_store.specs.Tables.{cells, rowids_of, rows_of, select_approvals, select_proposal_keys, select_proposals, select_revisions, select_version, select_version_keys}

-- the tables that these schemas declare
abbrev IsDeclared : Bool → List ℕ → (ℕ → Table) → Type 0
IsDeclared all name table = (schema : Schema) → HasThese all schema → (tree : ℕ) × Declares schema name table tree

pub file_rev_declared : (all : Bool) → IsDeclared all (codes "file_rev") file_rev_table
file_rev_declared true schema has = (has.first.tree, has.first.file_rev)
file_rev_declared false schema has = (has.tree, has.file_rev)

pub meta_declared : (all : Bool) → IsDeclared all (codes "meta") meta_table
meta_declared true schema has = (has.first.meta_tree, has.first.meta)
meta_declared false schema has = (has.meta_tree, has.meta)

approval_declared : IsDeclared true (codes "approval") approval_table
approval_declared schema has = (has.approval_tree, has.approval)

proposal_declared : IsDeclared true (codes "proposal") proposal_table
proposal_declared schema has = (has.proposal_tree, has.proposal)

-- a text that means a query on one of the tables shows what that query answers
module _ (all : Bool) (sql : List ℕ) (params : Row) (name : List ℕ) (table : ℕ → Table) (query : ℕ → Query) (names : List (List ℕ)) (of : Database → List Row) (shown : ℕ → List Row → List Row)
    (own : IsDeclared all name table) (means : MeansAnywhere sql name table query names)
    (of_is : (db : Database) (tree : ℕ) → table_in db.schema name ≡ Some (table tree) → of db ≡ shown tree (db.trees (table tree).tree))
    (answers : (tree : ℕ) → nat_le (2 ^ 31) tree ≡ false → (db : Trees) (rows : List Row) → IsProgramAnswer [] (query tree) db params rows
    → IsPermutation (shown tree (db (table tree).tree)) rows) where
  low_of : (tree : ℕ) → tree < 65536 → nat_le (2 ^ 31) tree ≡ false
  low_of tree low = lt-leb (2 ^ 31) tree (omega arith)

  under_of : (tree : ℕ) → tree < 65536 → nat_lt tree (2 ^ 31) ≡ true
  under_of tree low = lt-ltb tree (2 ^ 31) (omega arith)

  meaning : (schema : Schema) (has : HasThese all schema) → Means sql query names schema (own schema has).0
  meaning schema has =
      let it = own schema has in
      let at = placed schema name (table it.0) it.1.there in
      means schema at.0 it.0 at.1 at.2 it.1.alone (low_of it.0 it.1.low) (under_of it.0 it.1.low)

  look : IsLook all sql params of
  look = record {
    plain = λ schema has. (meaning schema has).plain;
    unlisted = λ schema has. (meaning schema has).unlisted;
    rows = λ db rows c has is h.
        let it = own db.schema has in
        let read = subst (λ (k : Command). Reads k db params rows) (ap command_of (sym is) ∙ (meaning db.schema has).is) h in
        subst (λ before. IsPermutation before rows) (sym (of_is db it.0 it.1.there)) (answers it.0 (low_of it.0 it.1.low) db.trees rows read.answer);
  }

pub revisions_look : (all : Bool) → IsLook all select_revisions [] (λ db. rows_of db (codes "file_rev"))
revisions_look all =
    look all select_revisions [] (codes "file_rev") file_rev_table (q whole.revision_columns) whole.revision_names (λ db. rows_of db (codes "file_rev")) (λ tree rows. map (cells (file_rev_table tree)) rows) (file_rev_declared all) whole.revisions_mean
    (λ db tree is. rows_are db (codes "file_rev") (file_rev_table tree) is) whole.revision_answers

pub versions_look : (all : Bool) → IsLook all select_version [] (λ db. rows_of db (codes "meta"))
versions_look all =
    look all select_version [] (codes "meta") meta_table (q whole.version_columns) (codes "version" ∷ []) (λ db. rows_of db (codes "meta")) (λ tree rows. map (cells (meta_table tree)) rows) (meta_declared all) whole.version_means
    (λ db tree is. rows_are db (codes "meta") (meta_table tree) is) whole.version_answers

pub approvals_look : IsLook true select_approvals [] (λ db. rows_of db (codes "approval"))
approvals_look =
    look true select_approvals [] (codes "approval") approval_table (q whole.approval_columns) whole.approval_names (λ db. rows_of db (codes "approval")) (λ tree rows. map (cells (approval_table tree)) rows) approval_declared whole.approvals_mean
    (λ db tree is. rows_are db (codes "approval") (approval_table tree) is) whole.approval_answers

pub proposals_look : IsLook true select_proposals [] (λ db. rows_of db (codes "proposal"))
proposals_look =
    look true select_proposals [] (codes "proposal") proposal_table (q whole.proposal_columns) whole.proposal_names (λ db. rows_of db (codes "proposal")) (λ tree rows. map (cells (proposal_table tree)) rows) proposal_declared whole.proposals_mean
    (λ db tree is. rows_are db (codes "proposal") (proposal_table tree) is) whole.proposal_answers

pub proposal_keys_look : IsLook true select_proposal_keys [] (λ db. rowids_of db (codes "proposal"))
proposal_keys_look =
    look true select_proposal_keys [] (codes "proposal") proposal_table (q whole.key_columns) key_names (λ db. rowids_of db (codes "proposal")) (λ tree rows. map (λ row. rowid row ∷ []) rows) proposal_declared proposal_keys_mean
    (λ db tree is. rowids_are db (codes "proposal") (proposal_table tree) is) whole.key_answers

pub version_keys_look : (all : Bool) → IsLook all select_version_keys [] (λ db. rowids_of db (codes "meta"))
version_keys_look all =
    look all select_version_keys [] (codes "meta") meta_table (q whole.key_columns) key_names (λ db. rowids_of db (codes "meta")) (λ tree rows. map (λ row. rowid row ∷ []) rows) (meta_declared all) version_keys_mean
    (λ db tree is. rowids_are db (codes "meta") (meta_table tree) is) whole.key_answers

pub numbers_look : (file : List ℕ) → IsLook true select_numbers (Words file ∷ []) (numbers_in file)
numbers_look file =
    look true select_numbers (Words file ∷ []) (codes "file_rev") file_rev_table numbers_query numbers_names (numbers_in file) (λ tree rows. map number_author_and_profile (filter (is_of file) (map (cells (file_rev_table tree)) rows))) (file_rev_declared true) numbers_mean
    (λ db tree is. ap (λ rows. map number_author_and_profile (filter (is_of file) rows)) (rows_are db (codes "file_rev") (file_rev_table tree) is)) (numbers_answered file)

pub revision_look : (file : List ℕ) (rev : ℕ) → IsLook true select_revision (Words file ∷ Int (pos rev) ∷ []) (revision_in file rev)
revision_look file rev =
    look true select_revision (Words file ∷ Int (pos rev) ∷ []) (codes "file_rev") file_rev_table revision_query revision_names (revision_in file rev) (λ tree rows. map author_profile_and_text (filter (is_at file rev) (map (cells (file_rev_table tree)) rows))) (file_rev_declared true) revision_means
    (λ db tree is. ap (λ rows. map author_profile_and_text (filter (is_at file rev) rows)) (rows_are db (codes "file_rev") (file_rev_table tree) is)) (revision_answered file rev)

pub approver_look : (file : List ℕ) (rev : ℕ) → IsLook true select_approver (Words file ∷ Int (pos rev) ∷ []) (approver_in file rev)
approver_look file rev =
    look true select_approver (Words file ∷ Int (pos rev) ∷ []) (codes "approval") approval_table approver_query approver_names (approver_in file rev) (λ tree rows. map approver_of (filter (is_at file rev) (map (cells (approval_table tree)) rows))) approval_declared approver_means
    (λ db tree is. ap (λ rows. map approver_of (filter (is_at file rev) rows)) (rows_are db (codes "approval") (approval_table tree) is)) (approver_answered file rev)

pub approvers_look : (file : List ℕ) → IsLook true select_approvers (Words file ∷ []) (approvers_in file)
approvers_look file =
    look true select_approvers (Words file ∷ []) (codes "approval") approval_table approvers_query approvers_names (approvers_in file) (λ tree rows. map number_and_approver (filter (is_of file) (map (cells (approval_table tree)) rows))) approval_declared approvers_mean
    (λ db tree is. ap (λ rows. map number_and_approver (filter (is_of file) rows)) (rows_are db (codes "approval") (approval_table tree) is)) (approvers_answered file)
