-- What the statements come to that make a database of version 1 one of version 2.
use Rattle.std.proofs.Common.{◌≡◌, ◌≢◌, ◌∙◌, ap, inl, refl, subst, sym, ℕ, pos, ◌==◌, ◌++◌, false, true, List, [], ◌∷◌, Some, IsPermutation, IsTrue, codes, filter, map}
use Rattle.std.specs.List.{AllByRecursion, filter_map}
use Rattle.std.specs.Option.{option_map_or}
use Rattle.std.proofs.lemmas.Bool.{eq-eqb}
use Rattle.std.proofs.lemmas.List.Sorted.{IsPermutation-refl}
use Rattle.sqlite.specs.Effect.{Database}
use Rattle.sqlite.specs.Order.{Row}
use Rattle.sqlite.specs.Schema.{Schema}
use Rattle.sqlite.specs.State.{HasCleanDisk, State}
use Rattle.sqlite.specs.Table.{Table}
use Rattle.sqlite.specs.Tree.{rowid}
use Rattle.sqlite.specs.declared.types.Value.TheVariants.{Int}
use Rattle.desk_core.specs.History.{pending_in}
use Rattle.desk_store.specs.Create.{HasLaterRoom, LaterAreMade, MakesLater, Ran, insert_version}
use Rattle.desk_store.specs.Desk.{History}
use Rattle.desk_store.specs.History.{Holds, HoldsFirst, approval_of, proposed_row, revisions_in, row_of}
use Rattle.desk_store.specs.Open.{IsFirst, Migrates, is_meta}
use Rattle.desk_store.specs.Storing.{MakesSecond}
use Rattle.desk_schema.specs.Tables.{Declares, HasFirstTables, HasTables, approval_table, file_rev_table, meta_table, proposal_table, table_in}
use Rattle.desk_store.specs.Tables.{AreKeys, IsAtRestWith, IsKeyed, delete_version, rows_of}
use Rattle.desk_store.proofs.Created.{each_both, tree_stays}
use Rattle.desk_store.proofs.DeleteEffect.{Takes}
use Rattle.desk_store.proofs.Entries.{apart_trees, kept_rows, spare_then, unreferred_two}
use Rattle.desk_store.proofs.InsertEffect.{Puts}
use Rattle.desk_store.proofs.Inserting.{Soundly, versions_taken}
use Rattle.desk_store.proofs.Placed.{rowids_are}
use Rattle.desk_store.proofs.Making.{declared_later, four_tables, of_each, rows_later}
use Rattle.desk_store.proofs.VersionInsert.{only_version, version_put}

none_left : (rows : List Row) → filter (λ row. false) rows ≡ []
none_left [] = refl
none_left (row ∷ rows) = none_left rows

-- a table that is not `meta` has another tree
other_tree : (schema : Schema) (tree : ℕ) (t : Table) → table_in schema (codes "meta") ≡ Some (meta_table tree) → is_meta schema t ≡ false → t.tree ≢ tree
other_tree schema tree t there not_meta same =
    let is : (tree == t.tree) ≡ false = sym (ap (λ o. option_map_or (λ (u : Table). u.tree == t.tree) o false) there) ∙ not_meta in
    let own : (tree == t.tree) ≡ true = eq-eqb tree t.tree (sym same) in
    absurd (let clash = sym own ∙ is in cc)

-- `a` is the database of version 1; in `b` the later tables are made, in `c` its version is taken out, and in `d` the new one is put in
module _ (a b c d : Database) (room : HasLaterRoom a.schema) (later : LaterAreMade a b) (has_first : HasFirstTables a.schema) where
  abbrev tree : ℕ
  tree = has_first.meta_tree

  has : HasTables b.schema
  has = four_tables a b later room has_first

  pub meta_now : Declares b.schema (codes "meta") meta_table tree
  meta_now = declared_later a b later (codes "meta") meta_table tree (λ n. refl) has_first.meta

  pub keyed_now : IsKeyed a (codes "meta") → IsKeyed b (codes "meta")
  keyed_now keyed =
      let still = tree_stays a b (codes "meta") (meta_table tree) has_first.meta.there later.others in
      subst AreKeys (rowids_are a (codes "meta") (meta_table tree) has_first.meta.there ∙ ap (map (λ row. rowid row ∷ [])) (sym still) ∙ sym (rowids_are b (codes "meta") (meta_table tree) meta_now.there)) keyed

  module _ (taken : Soundly (Takes tree (λ row. true)) b c) (put : Soundly (Puts (meta_table tree) (Int (pos 2) ∷ [])) c d) where
    -- the tables beside `meta` have the rows that they had
    kept : (name : List ℕ) (table : ℕ → Table) (t : ℕ) → ((n : ℕ) → (table n).tree ≡ n) → Declares b.schema name table t → t ≢ tree → rows_of d name ≡ rows_of b name
    kept name table t own declared apart =
        kept_rows c d name table t tree (subst (λ s. Declares s name table t) (sym taken.did.schema) declared) (own t) put.did.schema put.did.others apart
        ∙ kept_rows b c name table t tree declared (own t) taken.did.schema taken.did.others apart

    no_approvals : rows_of d (codes "approval") ≡ []
    no_approvals =
        kept (codes "approval") approval_table has.approval_tree (λ n. refl) has.approval (apart_trees b.schema (codes "approval") (codes "meta") approval_table meta_table has.approval_tree tree has.approval meta_now (λ n. absurd cc))
        ∙ later.no_approvals

    no_proposals : rows_of d (codes "proposal") ≡ []
    no_proposals =
        kept (codes "proposal") proposal_table has.proposal_tree (λ n. refl) has.proposal (apart_trees b.schema (codes "proposal") (codes "meta") proposal_table meta_table has.proposal_tree tree has.proposal meta_now (λ n. absurd cc))
        ∙ later.no_proposals

    revisions : rows_of d (codes "file_rev") ≡ rows_of a (codes "file_rev")
    revisions =
        let declared = declared_later a b later (codes "file_rev") file_rev_table has_first.tree (λ n. refl) has_first.file_rev in
        kept (codes "file_rev") file_rev_table has_first.tree (λ n. refl) declared (apart_trees b.schema (codes "file_rev") (codes "meta") file_rev_table meta_table has_first.tree tree declared meta_now (λ n. absurd cc))
        ∙ rows_later a b later (codes "file_rev") file_rev_table has_first.tree (λ n. refl) has_first.file_rev

    version : rows_of d (codes "meta") ≡ (Int (pos 2) ∷ []) ∷ []
    version =
        only_version c d tree (subst (λ s. Declares s (codes "meta") meta_table tree) (sym (put.did.schema ∙ taken.did.schema)) meta_now) (taken.did.rows ∙ none_left (b.trees tree)) put.did

    holds_second : (history : History) → HoldsFirst a history → Holds d history
    holds_second history first = record {
      tables = subst HasTables (sym (put.did.schema ∙ taken.did.schema)) has;
      version = version;
      revisions = subst (IsPermutation (map row_of (revisions_in history))) (sym revisions) first.revisions;
      approvals = subst (IsPermutation (filter_map approval_of (revisions_in history))) (sym no_approvals) (subst (λ rows. IsPermutation rows []) (sym first.approvals) (IsPermutation-refl []));
      proposals = subst (IsPermutation (map proposed_row (pending_in history))) (sym no_proposals) (subst (λ pending. IsPermutation (map proposed_row pending) []) (sym first.proposals) (IsPermutation-refl []));
      numbers = first.numbers;
    }

    pub migrates : Migrates a d
    migrates =
        let one = λ (t : Table). b.trees t.tree ≡ a.trees t.tree in
        let two = λ (t : Table). t.tree ≢ tree → c.trees t.tree ≡ b.trees t.tree in
        let three = λ (t : Table). t.tree ≢ tree → d.trees t.tree ≡ c.trees t.tree in
        let both = λ (t : Table). t.tree ≢ tree → c.trees t.tree ≡ a.trees t.tree in
        let first_two = each_both two one both a.schema.tables (λ t second first apart. second apart ∙ first) (of_each a b later two taken.did.others) later.others in
        let last = of_each a b later three (subst (λ (s : Schema). AllByRecursion three s.tables) taken.did.schema put.did.others) in
        record {
          holds = holds_second;
          schema = put.did.schema ∙ taken.did.schema ∙ later.schema;
          others = each_both three both (λ (t : Table). is_meta a.schema t ≡ false → d.trees t.tree ≡ a.trees t.tree) a.schema.tables
              (λ t third before none. let apart = other_tree a.schema tree t has_first.meta.there none in third apart ∙ before apart) last first_two;
          steps = later.steps ++ (c ∷ d ∷ []);
          frozen = spare_then a later.steps b (c ∷ d ∷ []) d later.frozen (taken.frozen, taken.sound, inl taken.did.schema, (put.frozen, put.sound, inl put.did.schema, refl));
          sound = put.sound;
        }

-- by their statements
pub second_made : (a b c d : State) → MakesLater a b → Ran delete_version b c → Ran insert_version c d → MakesSecond a d
second_made a b c d makes deleted inserted room keyed history first =
    let later = makes room in
    let has_first = first.tables in
    let tables = four_tables a.now b.now later room has_first in
    let meta = meta_now a.now b.now c.now d.now room later has_first in
    let taken = versions_taken b c has_first.meta_tree deleted.0 meta (unreferred_two b.now.schema tables.first.unreferred).0 (keyed_now a.now b.now c.now d.now room later has_first keyed) deleted.1 in
    let put = version_put c d has_first.meta_tree inserted.0 (subst (λ s. Declares s (codes "meta") meta_table has_first.meta_tree) (sym taken.did.schema) meta) inserted.1 in
    migrates a.now b.now c.now d.now room later has_first taken put

-- begun at rest on a database of version 1 in which there is room, they make of its last commit one of version 2
pub makes_migrated : (old begun end : State) → begun.now ≡ old.now → (HasCleanDisk old → IsAtRestWith false old) → (HasCleanDisk old → IsTrue old.is_open → IsFirst old.committed)
    → (HasCleanDisk old → IsTrue old.is_open → IsKeyed old.committed (codes "meta")) → (HasCleanDisk old → IsTrue old.is_open → HasLaterRoom old.committed.schema)
    → HasCleanDisk old → IsTrue old.is_open → MakesSecond begun end → Migrates old.committed end.now
makes_migrated old begun end same rest first keyed room clean live made =
    let is : begun.now ≡ old.committed = same ∙ (rest clean).settled live in
    let it = first clean live in
    subst (λ (db : Database). Migrates db end.now) is (
    made (subst (λ (db : Database). HasLaterRoom db.schema) (sym is) (room clean live)) (subst (λ (db : Database). IsKeyed db (codes "meta")) (sym is) (keyed clean live)) it.0
    (subst (λ (db : Database). HoldsFirst db it.0) (sym is) it.1))
