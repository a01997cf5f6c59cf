-- What is written into the tables of a desk: one row put in or a file's proposal taken out, and one write after another.
use Rattle.std.proofs.Common.{◌≡◌, ◌≢◌, ◌⊎◌, ◌∙◌, ap, sym, subst, subst₂, refl, inl, inr, ℕ, Bool, true, false, cond, not, ◌==◌, List, [], ◌∷◌, ◌++◌, length, map, filter, codes, Option, Some, Ok, append-nil, append_assoc}
use Rattle.std.specs.Prelude.{IsPermutation}
use Rattle.std.specs.List.{AllByRecursion}
use Rattle.std.specs.Option.{option_map_or}
use Rattle.std.proofs.lemmas.Bool.{eq-eqb}
use Rattle.std.proofs.lemmas.List.Sorted.{IsPermutation-append_right, IsPermutation-cons, IsPermutation-map, IsPermutation-refl, IsPermutation-trans}
use Rattle.sqlite_trees.proofs.ListLemmas.{all-slice_get}
use Rattle.sqlite.specs.Effect.{Database, IsDatabase, SparesFrozen}
use Rattle.sqlite.specs.declared.types.Value.TheVariants.{Text as Words}
use Rattle.sqlite.specs.Order.{Row, column}
use Rattle.sqlite.specs.Schema.{Schema}
use Rattle.sqlite.specs.State.{Executes, State}
use Rattle.sqlite.specs.Table.{Table}
use Rattle.desk_store.proofs.DeleteEffect.{Takes}
use Rattle.desk_store.proofs.InsertEffect.{Puts, numbered_row, put_permutes}
use Rattle.desk_store.proofs.Inserting.{Soundly, approval_put, is_proposal_of, proposal_put, proposal_taken, revision_put}
use Rattle.desk_store.proofs.Placed.{placed, rowids_are, rows_are}
use Rattle.desk_store.proofs.OwnRowids.{keys_kept, keys_put, neither}
use Rattle.desk_schema.specs.Tables.{Declares, HasTables, approval_table, are_referred, file_rev_table, meta_table, proposal_table, refers_to, table_at, table_in}
use Rattle.desk_store.specs.Tables.{AreKeys, IsKeyed, SpareFrozen, Stores, Writes, approval_row, cells, delete_proposal, insert_approval, insert_proposal, insert_revision, is_row_of, is_written, proposal_row, revision_row, rowids_of, rows_of, without_file}

-- ---- trees

-- tables with other columns have other trees
pub apart_trees : (schema : Schema) (a b : List ℕ) (one two : ℕ → Table) (s t : ℕ) → Declares schema a one s → Declares schema b two t → length (one s).columns ≢ length (two t).columns → s ≢ t
apart_trees schema a b one two s t first second differ same =
    differ (ap (λ (o : Option Table). option_map_or (λ (it : Table). length it.columns) o 0) (sym first.alone ∙ ap (table_at schema) same ∙ second.alone))

-- of a table whose tree is not the one that was written, the rows and their rowids are as before
module _ (old after : Database) (name : List ℕ) (table : ℕ → Table) (t tree : ℕ) (declared : Declares old.schema name table t) (own_tree : (table t).tree ≡ t) (schema : after.schema ≡ old.schema)
    (others : AllByRecursion (λ (it : Table). it.tree ≢ tree → after.trees it.tree ≡ old.trees it.tree) old.schema.tables) where
  pub still_there : table_in after.schema name ≡ Some (table t)
  still_there = ap (λ s. table_in s name) schema ∙ declared.there

  kept : t ≢ tree → after.trees (table t).tree ≡ old.trees (table t).tree
  kept apart = let at = placed old.schema name (table t) declared.there in all-slice_get _ old.schema.tables at.0 (table t) at.2 others (λ same. apart (sym own_tree ∙ same))

  pub kept_rows : t ≢ tree → rows_of after name ≡ rows_of old name
  kept_rows apart = rows_are after name (table t) still_there ∙ ap (map (cells (table t))) (kept apart) ∙ sym (rows_are old name (table t) declared.there)

  pub kept_rowids : t ≢ tree → rowids_of after name ≡ rowids_of old name
  kept_rowids apart = rowids_are after name (table t) still_there ∙ ap (map (λ row. column row 0 ∷ [])) (kept apart) ∙ sym (rowids_are old name (table t) declared.there)

each_so : {X : Type 0} (P Q : X → Type 0) (xs : List X) → ((x : X) → P x → Q x) → AllByRecursion P xs → AllByRecursion Q xs
each_so P Q [] f a = tt
each_so P Q (x ∷ xs) f a = (f x a.0, each_so P Q xs f a.1)

each_then : {X : Type 0} (P Q R : X → Type 0) (xs : List X) → ((x : X) → P x → Q x → R x) → AllByRecursion P xs → AllByRecursion Q xs → AllByRecursion R xs
each_then P Q R [] f a b = tt
each_then P Q R (x ∷ xs) f a b = (f x a.0 b.0, each_then P Q R xs f a.1 b.1)

-- ---- one row, or the proposal of a file

-- a row was put in, in some place
pub put_rows : (old after : Database) (name : List ℕ) (table : Table) (row : Row) → table_in old.schema name ≡ Some table → table_in after.schema name ≡ Some table → Puts table row old after
    → IsPermutation (row ∷ rows_of old name) (rows_of after name)
put_rows old after name table row before later p =
    let put = IsPermutation-map (cells table) _ _ (put_permutes (numbered_row (old.trees table.tree) row) (old.trees table.tree) p.free) in
    subst₂ IsPermutation (ap (λ r. r ∷ map (cells table) (old.trees table.tree)) p.columns ∙ ap (λ rows. row ∷ rows) (sym (rows_are old name table before)))
    (sym (rows_are after name table later ∙ ap (map (cells table)) p.rows)) put

pub put_rowids : (old after : Database) (name : List ℕ) (table : Table) (row : Row) → table_in old.schema name ≡ Some table → table_in after.schema name ≡ Some table → Puts table row old after
    → IsKeyed old name → IsKeyed after name
put_rowids old after name table row before later p keyed =
    subst AreKeys (ap (map (λ r. column r 0 ∷ [])) (sym p.rows) ∙ sym (rowids_are after name table later))
    (keys_put (numbered_row (old.trees table.tree) row) (old.trees table.tree) refl p.free (subst AreKeys (rowids_are old name table before) keyed))

left_one : (table : Table) (b : Bool) (row : Row) (kept shown : List Row) → map (cells table) kept ≡ shown → map (cells table) (cond (not b) (row ∷ kept) kept) ≡ cond (not b) (cells table row ∷ shown) shown
left_one table true row kept shown same = same
left_one table false row kept shown same = ap (λ rows. cells table row ∷ rows) same

left_cells : (table : Table) (p q : Row → Bool) (rows : List Row) → ((row : Row) → p row ≡ q (cells table row)) → map (cells table) (filter (λ row. not (p row)) rows) ≡ filter (λ row. not (q row)) (map (cells table) rows)
left_cells table p q [] same = refl
left_cells table p q (row ∷ rows) same =
    let shown = filter (λ r. not (q r)) (map (cells table) rows) in
    left_one table (p row) row (filter (λ r. not (p r)) rows) shown (left_cells table p q rows same) ∙ ap (λ b. cond (not b) (cells table row ∷ shown) shown) (same row)

-- rows were taken out by what their columns are
pub left_rows : (old after : Database) (name : List ℕ) (table : Table) (p q : Row → Bool) → ((row : Row) → p row ≡ q (cells table row)) → table_in old.schema name ≡ Some table → table_in after.schema name ≡ Some table
    → Takes table.tree p old after → rows_of after name ≡ filter (λ row. not (q row)) (rows_of old name)
left_rows old after name table p q same before later took =
    rows_are after name table later ∙ ap (map (cells table)) took.rows ∙ left_cells table p q (old.trees table.tree) same ∙ sym (ap (filter (λ row. not (q row))) (rows_are old name table before))

pub left_rowids : (old after : Database) (name : List ℕ) (table : Table) (p : Row → Bool) → table_in old.schema name ≡ Some table → table_in after.schema name ≡ Some table → Takes table.tree p old after → IsKeyed old name → IsKeyed after name
left_rowids old after name table p before later took keyed =
    subst AreKeys (ap (map (λ r. column r 0 ∷ [])) (sym took.rows) ∙ sym (rowids_are after name table later))
    (keys_kept (λ row. not (p row)) (old.trees table.tree) (subst AreKeys (rowids_are old name table before) keyed))

-- what is said of a write of one tree, among the four tables
module _ (old after : Database) (has : HasTables old.schema) (tree : ℕ) (schema : after.schema ≡ old.schema)
    (others : AllByRecursion (λ (it : Table). it.tree ≢ tree → after.trees it.tree ≡ old.trees it.tree) old.schema.tables) where
  other_tree : (t u : ℕ) (name : List ℕ) (table : ℕ → Table) → table_in old.schema name ≡ Some (table t) → (table t).tree ≡ t → option_map_or (λ (it : Table). it.tree == u) (table_in old.schema name) false ≡ false → u ≢ t
  other_tree t u name table there own none same =
      let yes : option_map_or (λ (it : Table). it.tree == u) (table_in old.schema name) false ≡ true = ap (λ o. option_map_or (λ (it : Table). it.tree == u) o false) there ∙ eq-eqb _ _ (own ∙ sym same) in
      absurd (let e = sym yes ∙ none in cc)

  -- a table that is none of the three has a tree of its own
  unwritten : (t : Table) → is_written old.schema t ≡ false → (t.tree ≢ has.first.tree) × (t.tree ≢ has.approval_tree) × (t.tree ≢ has.proposal_tree)
  unwritten t none =
      let first = neither _ _ none in
      let second = neither _ _ first.1 in
      let third = neither _ _ second.1 in (
        other_tree has.first.tree t.tree (codes "file_rev") file_rev_table has.first.file_rev.there refl first.0,
        other_tree has.approval_tree t.tree (codes "approval") approval_table has.approval.there refl second.0,
        other_tree has.proposal_tree t.tree (codes "proposal") proposal_table has.proposal.there refl third.0,
      )

  pub meta_kept : has.first.meta_tree ≢ tree → rows_of after (codes "meta") ≡ rows_of old (codes "meta")
  meta_kept = kept_rows old after (codes "meta") meta_table has.first.meta_tree tree has.first.meta refl schema others

  pub revisions_kept : has.first.tree ≢ tree → rows_of after (codes "file_rev") ≡ rows_of old (codes "file_rev")
  revisions_kept = kept_rows old after (codes "file_rev") file_rev_table has.first.tree tree has.first.file_rev refl schema others

  pub approvals_kept : has.approval_tree ≢ tree → rows_of after (codes "approval") ≡ rows_of old (codes "approval")
  approvals_kept = kept_rows old after (codes "approval") approval_table has.approval_tree tree has.approval refl schema others

  pub proposals_kept : has.proposal_tree ≢ tree → rows_of after (codes "proposal") ≡ rows_of old (codes "proposal")
  proposals_kept = kept_rows old after (codes "proposal") proposal_table has.proposal_tree tree has.proposal refl schema others

  pub keys_still : has.proposal_tree ≢ tree → IsKeyed old (codes "proposal") → IsKeyed after (codes "proposal")
  keys_still apart keyed = subst AreKeys (sym (kept_rowids old after (codes "proposal") proposal_table has.proposal_tree tree has.proposal refl schema others apart)) keyed

  -- The other parts of the write are the same for each of the three tables.
  module _ (frozen : SparesFrozen old after) (sound : IsDatabase after) (mine : (tree ≡ has.first.tree) ⊎ ((tree ≡ has.approval_tree) ⊎ (tree ≡ has.proposal_tree))) where
    apart_from_meta : has.first.meta_tree ≢ tree
    apart_from_meta = elim mine [
      | inl e ↦ λ same. apart_trees old.schema (codes "meta") (codes "file_rev") meta_table file_rev_table has.first.meta_tree has.first.tree has.first.meta has.first.file_rev (λ n. absurd cc) (same ∙ e)
      | inr (inl e) ↦ λ same. apart_trees old.schema (codes "meta") (codes "approval") meta_table approval_table has.first.meta_tree has.approval_tree has.first.meta has.approval (λ n. absurd cc) (same ∙ e)
      | inr (inr e) ↦ λ same. apart_trees old.schema (codes "meta") (codes "proposal") meta_table proposal_table has.first.meta_tree has.proposal_tree has.first.meta has.proposal (λ n. absurd cc) (same ∙ e)
    ]

    not_mine : (t : Table) → is_written old.schema t ≡ false → t.tree ≢ tree
    not_mine t none = let it = unwritten t none in elim mine [
      | inl e ↦ λ same. it.0 (same ∙ e)
      | inr (inl e) ↦ λ same. it.1 (same ∙ e)
      | inr (inr e) ↦ λ same. it.2 (same ∙ e)
    ]

    pub written : (revisions approvals : List Row) (became : List Row → List Row) → IsPermutation (revisions ++ rows_of old (codes "file_rev")) (rows_of after (codes "file_rev"))
        → IsPermutation (approvals ++ rows_of old (codes "approval")) (rows_of after (codes "approval")) → IsPermutation (became (rows_of old (codes "proposal"))) (rows_of after (codes "proposal"))
        → (IsKeyed old (codes "proposal") → IsKeyed after (codes "proposal")) → Writes revisions approvals became old after
    written revisions approvals became revised approved proposed keyed = record {
      schema = schema;
      revised = revised;
      approved = approved;
      proposed = proposed;
      version = meta_kept apart_from_meta;
      keyed = keyed;
      others = each_so _ (λ t. is_written old.schema t ≡ false → after.trees t.tree ≡ old.trees t.tree) old.schema.tables (λ t same none. same (not_mine t none)) others;
      steps = after ∷ [];
      frozen = (frozen, sound, inl schema, refl);
      sound = sound;
    }

same_rows : {a b : List Row} → b ≡ a → IsPermutation a b
same_rows {a} {b} e = subst (IsPermutation a) (sym e) (IsPermutation-refl a)

module _ (old after : Database) (has : HasTables old.schema) where
  revised_approved : has.first.tree ≢ has.approval_tree
  revised_approved = apart_trees old.schema (codes "file_rev") (codes "approval") file_rev_table approval_table has.first.tree has.approval_tree has.first.file_rev has.approval (λ n. absurd cc)

  revised_proposed : has.first.tree ≢ has.proposal_tree
  revised_proposed = apart_trees old.schema (codes "file_rev") (codes "proposal") file_rev_table proposal_table has.first.tree has.proposal_tree has.first.file_rev has.proposal (λ n. absurd cc)

  approved_proposed : has.approval_tree ≢ has.proposal_tree
  approved_proposed = apart_trees old.schema (codes "approval") (codes "proposal") approval_table proposal_table has.approval_tree has.proposal_tree has.approval has.proposal (λ n. absurd cc)

  later : (name : List ℕ) (table : Table) → after.schema ≡ old.schema → table_in old.schema name ≡ Some table → table_in after.schema name ≡ Some table
  later name table schema there = ap (λ s. table_in s name) schema ∙ there

  -- a revision is added
  pub writes_revision : (row : Row) → Soundly (Puts (file_rev_table has.first.tree) row) old after → Writes (row ∷ []) [] (λ proposals. proposals) old after
  writes_revision row h =
      let p = h.did in
      let there = has.first.file_rev.there in
      let tree = has.first.tree in
      written old after has tree p.schema p.others h.frozen h.sound (inl refl) (row ∷ []) [] (λ proposals. proposals) (put_rows old after (codes "file_rev") (file_rev_table tree) row there (later _ _ p.schema there) p)
      (same_rows (approvals_kept old after has tree p.schema p.others (λ e. revised_approved (sym e)))) (same_rows (proposals_kept old after has tree p.schema p.others (λ e. revised_proposed (sym e))))
      (keys_still old after has tree p.schema p.others (λ e. revised_proposed (sym e)))

  -- an approval is added
  pub writes_approval : (row : Row) → Soundly (Puts (approval_table has.approval_tree) row) old after → Writes [] (row ∷ []) (λ proposals. proposals) old after
  writes_approval row h =
      let p = h.did in
      let there = has.approval.there in
      let tree = has.approval_tree in
      written old after has tree p.schema p.others h.frozen h.sound (inr (inl refl)) [] (row ∷ []) (λ proposals. proposals) (same_rows (revisions_kept old after has tree p.schema p.others revised_approved))
      (put_rows old after (codes "approval") (approval_table tree) row there (later _ _ p.schema there) p) (same_rows (proposals_kept old after has tree p.schema p.others (λ e. approved_proposed (sym e))))
      (keys_still old after has tree p.schema p.others (λ e. approved_proposed (sym e)))

  -- a proposal is added
  pub writes_proposal : (row : Row) → Soundly (Puts (proposal_table has.proposal_tree) row) old after → Writes [] [] (λ proposals. row ∷ proposals) old after
  writes_proposal row h =
      let p = h.did in
      let there = has.proposal.there in
      let tree = has.proposal_tree in
      written old after has tree p.schema p.others h.frozen h.sound (inr (inr refl)) [] [] (λ proposals. row ∷ proposals) (same_rows (revisions_kept old after has tree p.schema p.others revised_proposed))
      (same_rows (approvals_kept old after has tree p.schema p.others approved_proposed)) (put_rows old after (codes "proposal") (proposal_table tree) row there (later _ _ p.schema there) p)
      (put_rowids old after (codes "proposal") (proposal_table tree) row there (later _ _ p.schema there) p)

  -- the proposal of a file is taken out
  pub takes_proposal : (file : List ℕ) → Soundly (Takes has.proposal_tree (is_proposal_of file)) old after → Writes [] [] (without_file file) old after
  takes_proposal file h =
      let p = h.did in
      let there = has.proposal.there in
      let tree = has.proposal_tree in
      written old after has tree p.schema p.others h.frozen h.sound (inr (inr refl)) [] [] (without_file file) (same_rows (revisions_kept old after has tree p.schema p.others revised_proposed))
      (same_rows (approvals_kept old after has tree p.schema p.others approved_proposed))
      (same_rows (left_rows old after (codes "proposal") (proposal_table tree) (is_proposal_of file) (is_row_of file) (λ row. refl) there (later _ _ p.schema there) p))
      (left_rowids old after (codes "proposal") (proposal_table tree) (is_proposal_of file) there (later _ _ p.schema there) p)

-- ---- one write after another

pub spare_then : (a : Database) (steps : List Database) (b : Database) (more : List Database) (c : Database) → SpareFrozen a steps b → SpareFrozen b more c → SpareFrozen a (steps ++ more) c
spare_then a [] b more c one two = subst (λ d. SpareFrozen d more c) one two
spare_then a (x ∷ steps) b more c one two = (one.0, one.1, one.2, spare_then x steps b more c one.3 two)

module _ (a b c : Database) where
  more_rows : (first second old mid new : List Row) → IsPermutation (first ++ old) mid → IsPermutation (second ++ mid) new → IsPermutation ((second ++ first) ++ old) new
  more_rows first second old mid new one two =
      subst (λ rows. IsPermutation rows new) (sym (append_assoc second first old)) (IsPermutation-trans _ _ _ (IsPermutation-append_right second (first ++ old) mid one) two)

  -- The second may do to the proposals what goes by no order.
  pub writes_then : (one_rows two_rows one_approvals two_approvals : List Row) (one_became two_became : List Row → List Row)
      → ((rows more : List Row) → IsPermutation rows more → IsPermutation (two_became rows) (two_became more))
      → Writes one_rows one_approvals one_became a b → Writes two_rows two_approvals two_became b c → Writes (two_rows ++ one_rows) (two_approvals ++ one_approvals) (λ proposals. two_became (one_became proposals)) a c
  writes_then one_rows two_rows one_approvals two_approvals one_became two_became unordered one two = record {
    schema = two.schema ∙ one.schema;
    revised = more_rows one_rows two_rows _ _ _ one.revised two.revised;
    approved = more_rows one_approvals two_approvals _ _ _ one.approved two.approved;
    proposed = IsPermutation-trans _ _ _ (unordered _ _ one.proposed) two.proposed;
    version = two.version ∙ one.version;
    keyed = λ keyed. two.keyed (one.keyed keyed);
    others = each_then _ (λ t. is_written a.schema t ≡ false → c.trees t.tree ≡ b.trees t.tree) (λ t. is_written a.schema t ≡ false → c.trees t.tree ≡ a.trees t.tree) a.schema.tables
        (λ t first second none. second none ∙ first none) one.others (subst (λ (s : Schema). AllByRecursion (λ t. is_written s t ≡ false → c.trees t.tree ≡ b.trees t.tree) s.tables) one.schema two.others);
    steps = one.steps ++ two.steps;
    frozen = spare_then a one.steps b two.steps c one.frozen two.frozen;
    sound = two.sound;
  }

-- nothing is written
pub writes_nothing : (a : Database) → IsDatabase a → Writes [] [] (λ proposals. proposals) a a
writes_nothing a sound = record {
  schema = refl;
  revised = IsPermutation-refl (rows_of a (codes "file_rev"));
  approved = IsPermutation-refl (rows_of a (codes "approval"));
  proposed = IsPermutation-refl (rows_of a (codes "proposal"));
  version = refl;
  keyed = λ keyed. keyed;
  others = all_same a.schema.tables;
  steps = [];
  frozen = refl;
  sound = sound;
}
  where
    all_same : (tables : List Table) → AllByRecursion (λ t. is_written a.schema t ≡ false → a.trees t.tree ≡ a.trees t.tree) tables
    all_same [] = tt
    all_same (t ∷ tables) = (λ none. refl, all_same tables)

-- ---- an entry

-- its file's proposal is taken out, its revision is added, and then its approval, if there is one
pub stores_revised : (a b c d : Database) (file : List ℕ) (row : Row) (approvals : List Row) → Writes [] [] (without_file file) a b → Writes (row ∷ []) [] (λ proposals. proposals) b c → Writes [] approvals (λ proposals. proposals) c d
    → Stores (record { file = file; revisions = row ∷ []; approvals = approvals; proposals = [] }) a d
stores_revised a b c d file row approvals taken revised approved =
    let both = writes_then a b c [] (row ∷ []) [] [] (without_file file) (λ proposals. proposals) (λ rows more same. same) taken revised in
    subst (λ rows. Writes (row ∷ []) rows (without_file file) a d) (append-nil approvals) (writes_then a c d (row ∷ []) [] [] approvals (without_file file) (λ proposals. proposals) (λ rows more same. same) both approved)

-- its file's proposal is taken out, and the new one is added
pub stores_proposed : (a b c : Database) (file : List ℕ) (row : Row) → Writes [] [] (without_file file) a b → Writes [] [] (λ proposals. row ∷ proposals) b c
    → Stores (record { file = file; revisions = []; approvals = []; proposals = row ∷ [] }) a c
stores_proposed a b c file row taken proposed = writes_then a b c [] [] [] [] (without_file file) (λ proposals. row ∷ proposals) (λ rows more same. IsPermutation-cons row rows more same) taken proposed

-- ---- the statements

-- no table refers to that of the proposals, nor to that of the version
pub unreferred_two : (schema : Schema) → are_referred schema ≡ false → (refers_to schema (codes "meta") ≡ false) × (refers_to schema (codes "proposal") ≡ false)
unreferred_two schema none =
    let first = neither _ _ none in
    let second = neither _ _ first.1 in
    let third = neither _ _ second.1 in
    let fourth = neither _ _ third.1 in
    (first.0, fourth.0)

module _ (old new : State) (count : ℕ) (has : HasTables old.now.schema) where
  pub revision_added : (file : List ℕ) (rev : ℕ) (author : List ℕ) (profile : ℕ) (body : List ℕ) → Executes insert_revision (revision_row file rev author profile body) old new (Ok count)
      → Writes (revision_row file rev author profile body ∷ []) [] (λ proposals. proposals) old.now new.now
  revision_added file rev author profile body h =
      writes_revision old.now new.now has (revision_row file rev author profile body) (revision_put old new has.first.tree count file rev author profile body has.first.file_rev h)

  pub approval_added : (file : List ℕ) (rev : ℕ) (approver : List ℕ) → Executes insert_approval (approval_row file rev approver) old new (Ok count)
      → Writes [] (approval_row file rev approver ∷ []) (λ proposals. proposals) old.now new.now
  approval_added file rev approver h = writes_approval old.now new.now has (approval_row file rev approver) (approval_put old new has.approval_tree count file rev approver has.approval h)

  pub proposal_added : (file : List ℕ) (base : ℕ) (author body : List ℕ) → Executes insert_proposal (proposal_row file base author body) old new (Ok count)
      → Writes [] [] (λ proposals. proposal_row file base author body ∷ proposals) old.now new.now
  proposal_added file base author body h = writes_proposal old.now new.now has (proposal_row file base author body) (proposal_put old new has.proposal_tree count file base author body has.proposal h)

  pub proposal_gone : (file : List ℕ) → IsKeyed old.now (codes "proposal") → Executes delete_proposal (Words file ∷ []) old new (Ok count) → Writes [] [] (without_file file) old.now new.now
  proposal_gone file keyed h =
      takes_proposal old.now new.now has file (proposal_taken old new has.proposal_tree count file has.proposal (unreferred_two old.now.schema has.first.unreferred).1 keyed h)
