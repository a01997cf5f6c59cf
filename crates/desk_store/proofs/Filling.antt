-- Revisions that are added to new tables.
use Rattle.std.proofs.Common.{◌≡◌, ◌≢◌, ◌∙◌, sym, ap, subst, inl, inr, refl, ℕ, ◌+◌, ◌<◌, ◌++◌, ◌==◌, ◌||◌, Bool, not, false, true, List, [], ◌∷◌, Some, None, length, map, take, get_or, codes, append-nil, append_assoc}
use Rattle.std.specs.Prelude.{IsPermutation}
use Rattle.std.specs.List.{AllByRecursion, filter_map, list_all, position_from}
use Rattle.std.proofs.lemmas.Bool.{cases_Bool, eqb-false, ne_eqb}
use Rattle.std.proofs.lemmas.List.{map_push, take_more}
use Rattle.std.proofs.lemmas.List.Sorted.{IsPermutation-middle, IsPermutation-trans}
use Rattle.sqlite.specs.Change.{created}
use Rattle.sqlite.specs.Effect.{Database}
use Rattle.sqlite.specs.Order.{Row}
use Rattle.sqlite.specs.Schema.{Schema}
use Rattle.sqlite.specs.State.{State}
use Rattle.sqlite.specs.Table.{Table}
use Rattle.sqlite_schema.specs.Names.{same_name, table_named}
use Rattle.desk_core.specs.Head.{Revision}
use Rattle.desk_core.specs.History.{IsHistory}
use Rattle.desk_core.specs.declared.entry.Entry.TheVariants.{Revised}
use Rattle.desk_store.specs.Create.{AddsRow, AddsRows, Fills, HasRoom, Makes, MakesEmpty, MakesRoom, with_four, with_meta}
use Rattle.desk_store.specs.History.{approval_of, proposed_row, revisions_in, row_of}
use Rattle.desk_schema.specs.Tables.{Declares, HasTables, approval_table, file_rev_table, meta_table, proposal_table}
use Rattle.desk_store.specs.Tables.{Writes, is_written, rows_of}
use Rattle.desk_store.proofs.Created.{each_both, old_part}
use Rattle.desk_store.proofs.Entries.{spare_then, writes_then}
use Rattle.desk_store.proofs.Revisions.{none_of_revised, revised_back}

-- one row more, behind the others
pub adds_more : (rows : List Row) (row : Row) (a b c : Database) → Writes rows [] (λ proposals. proposals) a b → Writes (row ∷ []) [] (λ proposals. proposals) b c → Writes (rows ++ row ∷ []) [] (λ proposals. proposals) a c
adds_more rows row a b c all one =
    let both : Writes (row ∷ rows) [] (λ proposals. proposals) a c = writes_then a b c rows (row ∷ []) [] [] (λ proposals. proposals) (λ proposals. proposals) (λ some more same. same) all one in
    let old = rows_of a (codes "file_rev") in
    let moved : rows ++ row ∷ [] ++ old ≡ rows ++ (row ∷ old) = append_assoc rows (row ∷ []) old in
    record {
      schema = both.schema;
      revised = subst (λ xs. IsPermutation xs (rows_of c (codes "file_rev"))) (sym moved) (IsPermutation-trans _ _ _ (IsPermutation-middle rows row old) both.revised);
      approved = both.approved;
      proposed = both.proposed;
      version = both.version;
      keyed = both.keyed;
      others = both.others;
      steps = both.steps;
      frozen = both.frozen;
      sound = both.sound;
    }

pub rows_next : (a b c : State) (heads : List Revision) (i : ℕ) (head : Revision) → i < length heads → head ≡ get_or heads i head → AddsRows (map row_of (take i heads)) a b → AddsRow (row_of head) b c
    → AddsRows (map row_of (take (i + 1) heads)) a c
rows_next a b c heads i head below is all one has sound =
    let rows = map row_of (take i heads) in
    let more : map row_of (take (i + 1) heads) ≡ rows ++ row_of head ∷ [] = ap (map row_of) (take_more heads i head below ∙ ap (λ x. take i heads ++ x ∷ []) (sym is)) ∙ map_push row_of (take i heads) head in
    let first = all has sound in
    subst (λ xs. Writes xs [] (λ proposals. proposals) a.now c.now) (sym more) (adds_more rows (row_of head) a.now b.now c.now first (one (subst HasTables (sym first.schema) has)))

-- ---- the tables that were there have other trees than the new ones

each_named : (p : Table → Bool) (tables : List Table) (i : ℕ) → position_from p i tables ≡ None → AllByRecursion (λ t. p t ≡ false) tables
each_named p [] i none = tt
each_named p (t ∷ tables) i none = elim (cases_Bool (p t)) [
  | inl here ↦ absurd (let e : Some i ≡ None = rw here at none in cc)
  | inr other ↦ (other, each_named p tables (i + 1) (rw other at none))
]

each_true : (p : Table → Bool) (tables : List Table) → list_all p tables ≡ true → AllByRecursion (λ t. p t ≡ true) tables
each_true p [] h = tt
each_true p (t ∷ tables) h = elim (cases_Bool (p t)) [
  | inl here ↦ (here, each_true p tables (rw here at h))
  | inr other ↦ absurd (let e : false ≡ true = rw other at h in cc)
]

not_here : (b named : Bool) → named ≡ false → (not b || named) ≡ true → b ≡ false
not_here false named other own = refl
not_here true named other own = absurd (let e = sym other ∙ own in cc)

-- what is said of each table with the four is said of each table before
of_old : (schema : Schema) (P : Table → Type 0) → AllByRecursion P (with_four schema).tables → AllByRecursion P schema.tables
of_old schema P all =
    let two = created (with_meta schema) (file_rev_table 0) in
    old_part schema (meta_table 0) P (old_part (with_meta schema) (file_rev_table 0) P (old_part two (approval_table 0) P (old_part (created two (approval_table 0)) (proposal_table 0) P all)))

apart_from : (old new : Schema) (name : List ℕ) (of : ℕ → Table) (tree : ℕ) → new ≡ with_four old → Declares new name of tree → table_named old name ≡ None → AllByRecursion (λ (t : Table). tree ≢ t.tree) old.tables
apart_from old new name of tree schema declared free =
    let is_own = λ (t : Table). not (t.tree == tree) || same_name t.name name in
    let own = subst (λ (s : Schema). AllByRecursion (λ t. is_own t ≡ true) s.tables) schema (each_true is_own new.tables declared.own) in
    each_both (λ (t : Table). same_name t.name name ≡ false) (λ t. is_own t ≡ true) (λ (t : Table). tree ≢ t.tree) old.tables (λ t other here same. eqb-false t.tree tree (not_here (t.tree == tree) (same_name t.name name) other here) (sym same))
    (each_named (λ (t : Table). same_name t.name name) old.tables 0 free) (of_old old (λ t. is_own t ≡ true) own)

unwritten : (schema : Schema) (has : HasTables schema) (t : Table) → has.first.tree ≢ t.tree → (has.approval_tree ≢ t.tree) × (has.proposal_tree ≢ t.tree) → is_written schema t ≡ false
unwritten schema has t one more =
    rw (has.first.file_rev.there, has.approval.there, has.proposal.there, ne_eqb has.first.tree t.tree one, ne_eqb has.approval_tree t.tree more.0, ne_eqb has.proposal_tree t.tree more.1) refl

old_unwritten : (a b : Database) → HasRoom a.schema → MakesEmpty a b → AllByRecursion (λ t. is_written b.schema t ≡ false) a.schema.tables
old_unwritten a b room empty =
    let has = empty.tables in
    let apart = λ (name : List ℕ) (of : ℕ → Table) (tree : ℕ) (declared : Declares b.schema name of tree) (free : table_named a.schema name ≡ None). apart_from a.schema b.schema name of tree empty.schema declared free in
    each_both (λ (t : Table). has.first.tree ≢ t.tree) (λ (t : Table). (has.approval_tree ≢ t.tree) × (has.proposal_tree ≢ t.tree)) (λ t. is_written b.schema t ≡ false) a.schema.tables (unwritten b.schema has)
    (apart (codes "file_rev") file_rev_table has.first.tree has.first.file_rev room.file_rev.no_table)
    (each_both (λ (t : Table). has.approval_tree ≢ t.tree) (λ (t : Table). has.proposal_tree ≢ t.tree) (λ (t : Table). (has.approval_tree ≢ t.tree) × (has.proposal_tree ≢ t.tree)) a.schema.tables (λ t two three. (two, three))
    (apart (codes "approval") approval_table has.approval_tree has.approval room.later.approval.no_table) (apart (codes "proposal") proposal_table has.proposal_tree has.proposal room.later.proposal.no_table))

-- ---- a history in new tables

-- new tables to which the rows of revisions are added that nobody approved hold them
makes : (revisions : List Revision) (a b c : Database) → HasRoom a.schema → IsHistory (map Revised revisions) → filter_map approval_of revisions ≡ [] → MakesEmpty a b → Writes (map row_of revisions) [] (λ proposals. proposals) b c
    → Makes (map Revised revisions) a c
makes revisions a b c room numbered unapproved empty all =
    let history = map Revised revisions in
    let rows : map row_of revisions ++ rows_of b (codes "file_rev") ≡ map row_of (revisions_in history) = ap (λ xs. map row_of revisions ++ xs) empty.empty ∙ append-nil (map row_of revisions) ∙ ap (map row_of) (sym (revised_back revisions)) in
    let approvals : rows_of b (codes "approval") ≡ filter_map approval_of (revisions_in history) = empty.no_approvals ∙ sym (ap (filter_map approval_of) (revised_back revisions) ∙ unapproved) in
    let same = λ (t : Table). c.trees t.tree ≡ b.trees t.tree in
    let later = λ (t : Table). is_written b.schema t ≡ false → c.trees t.tree ≡ b.trees t.tree in
    record {
      holds = record {
        tables = subst HasTables (sym all.schema) empty.tables;
        version = all.version ∙ empty.version;
        revisions = subst (λ xs. IsPermutation xs (rows_of c (codes "file_rev"))) rows all.revised;
        approvals = subst (λ xs. IsPermutation xs (rows_of c (codes "approval"))) approvals all.approved;
        proposals = subst (λ xs. IsPermutation xs (rows_of c (codes "proposal"))) (empty.no_proposals ∙ ap (map proposed_row) (sym (none_of_revised revisions))) all.proposed;
        numbers = numbered;
      };
      sound = all.sound;
      schema = all.schema ∙ empty.schema;
      others = each_both same _ (λ (t : Table). c.trees t.tree ≡ a.trees t.tree) a.schema.tables (λ t two one. two ∙ one)
          (each_both later _ same a.schema.tables (λ t same_if none. same_if none) (of_old a.schema later (subst (λ (s : Schema). AllByRecursion later s.tables) empty.schema all.others)) (old_unwritten a b room empty)) empty.others;
      steps = empty.steps ++ all.steps;
      frozen = spare_then a empty.steps b all.steps c empty.frozen all.frozen;
    }

pub fills : (revisions : List Revision) (a b c : State) → MakesRoom a b → AddsRows (map row_of revisions) b c → Fills revisions a c
fills revisions a b c empty all room numbered unapproved = let new = empty room in makes revisions a.now b.now c.now room numbered unapproved new (all new.tables new.sound)
