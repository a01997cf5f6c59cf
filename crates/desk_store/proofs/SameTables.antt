-- The trees of a sound database say which tables it has: so what one reading of them holds, another holds too.
use Rattle.std.proofs.Common.{◌≡◌, ◌∙◌, inl, inr, sym, ap, subst, refl, ℕ, ◌+◌, ◌==◌, ◌&&◌, ◌||◌, not, Bool, true, false, List, [], ◌∷◌, Option, Some, None, Ok, Result, codes, filter, find, get_or, length, map, pos, slice_get, arith}
use Rattle.std.specs.Prelude.{IsPermutation, is_some, option_and_then, option_map, unwrap_or}
use Rattle.std.specs.List.{AllZip, filter_map, list_all, list_any, position_from}
use Rattle.sqlite.specs.Order.{Row}
use Rattle.sqlite.specs.Effect.{Database, IsDatabase}
use Rattle.sqlite.specs.Table.{Table}
use Rattle.sqlite.specs.Tree.{Trees}
use Rattle.sqlite.specs.declared.types.Value.TheVariants.{Int, Text}
use Rattle.sqlite_trees.specs.Objects.{catalog_tree}
use Rattle.sqlite_schema.specs.Names.{same_name}
use Rattle.sqlite_resolve.specs.Compile.{table_defined_by}
use Rattle.sqlite_catalog.specs.Listing.{IsAside, IsForeign, IsTableRow, IsViewRow, is_table_row, is_view_row}
use Rattle.sqlite_schema.specs.declared.schema.Reference.{Reference}
use Rattle.sqlite_schema.specs.declared.schema.View.{View}
use Rattle.sqlite_schema.specs.Names.{table_named}
use Rattle.desk_core.specs.History.{pending_in}
use Rattle.sqlite.specs.Schema.{Schema}
use Rattle.desk_store.specs.Desk.{History}
use Rattle.desk_store.specs.Open.{IsProject}
use Rattle.desk_store.specs.History.{Holds, HoldsFirst, approval_of, proposed_row, revisions_in, row_of}
use Rattle.desk_schema.specs.Tables.{Declares, HasFirstTables, HasTables, has_later, has_table, is_kept_table}
use Rattle.desk_store.specs.Tables.{cells, rows_of}
use Rattle.desk_store.proofs.Placed.{placed}

ok_injective : {A B : Type 0} {a b : A} → ◌≡◌ {A = Result A B} (Ok a) (Ok b) → a ≡ b
ok_injective e = cc

-- a row is that of one table
one_table : (row : Row) (t u : Table) → IsTableRow row t → IsTableRow row u → t ≡ u
one_table row t u a b =
    let texts : Text a.sql ≡ Text b.sql = sym a.sql_is ∙ b.sql_is in
    let sql : a.sql ≡ b.sql = cc in
    let made : a.defined.0 ≡ b.defined.0 = ok_injective (sym a.defined.1 ∙ ap table_defined_by sql ∙ b.defined.1) in
    let ids : Int (pos (t.tree + 1)) ≡ Int (pos (u.tree + 1)) = sym a.described.id ∙ b.described.id in
    let next : t.tree + 1 ≡ u.tree + 1 = cc in
    let tree : t.tree ≡ u.tree = omega (arith, next) in
    let P : Table → ℕ → Table = λ made n. record made { tree = n } in
    a.defined.2 ∙ ap (λ m. P m t.tree) made ∙ ap (P b.defined.0) tree ∙ sym b.defined.2

one_list : (rows : List Row) (xs ys : List Table) → AllZip IsTableRow rows xs → AllZip IsTableRow rows ys → xs ≡ ys
one_list [] [] [] a b = refl
one_list [] [] (y ∷ ys) a b = absurd b
one_list [] (x ∷ xs) ys a b = absurd a
one_list (r ∷ rows) [] ys a b = absurd a
one_list (r ∷ rows) (x ∷ xs) [] a b = absurd b
one_list (r ∷ rows) (x ∷ xs) (y ∷ ys) a b = ap (λ t. t ∷ xs) (one_table r x y a.0 b.0) ∙ ap (λ ts. y ∷ ts) (one_list rows xs ys a.1 b.1)

-- what a schema with these tables has under a name
abbrev named : List Table → List ℕ → Option Table
named tables name = option_and_then (slice_get tables) (position_from (λ t. same_name t.name name) 0 tables)

abbrev rows_in : List Table → Trees → List ℕ → List Row
rows_in tables trees name = unwrap_or (option_map (λ t. map (cells t) (trees t.tree)) (named tables name)) []

-- what else a row lists is of one kind: it belongs to the same table, and is one of those that are triggers or not
binds_as : (row : Row) (v w : View) (kind : List ℕ) (c d : ℕ) → IsForeign row v kind c → IsForeign row w kind d → v.binds ≡ w.binds
binds_as row v w kind c d (inl a) (inl b) = a.2 ∙ sym b.2
binds_as row v w kind c d (inl a) (inr (inl b)) = absurd (let first : 116 ≡ 105 = ap (λ k. get_or k 0 0) (sym a.0 ∙ b.0) in omega (arith, first))
binds_as row v w kind c d (inl a) (inr (inr b)) = absurd (let long : 5 ≡ 7 = ap length (sym a.0 ∙ b.0) in omega (arith, long))
binds_as row v w kind c d (inr (inl a)) (inl b) = absurd (let first : 105 ≡ 116 = ap (λ k. get_or k 0 0) (sym a.0 ∙ b.0) in omega (arith, first))
binds_as row v w kind c d (inr (inl a)) (inr (inl b)) = a.2 ∙ sym b.2
binds_as row v w kind c d (inr (inl a)) (inr (inr b)) = absurd (let long : 5 ≡ 7 = ap length (sym a.0 ∙ b.0) in omega (arith, long))
binds_as row v w kind c d (inr (inr a)) (inl b) = absurd (let long : 7 ≡ 5 = ap length (sym a.0 ∙ b.0) in omega (arith, long))
binds_as row v w kind c d (inr (inr a)) (inr (inl b)) = absurd (let long : 7 ≡ 5 = ap length (sym a.0 ∙ b.0) in omega (arith, long))
binds_as row v w kind c d (inr (inr a)) (inr (inr b)) = a.2 ∙ sym b.2

no_view : (row : Row) (v : View) (kind : List ℕ) (c : ℕ) → kind ≡ codes "view" → IsForeign row v kind c → ⊥
no_view row v kind c is (inl a) = let long : 4 ≡ 5 = ap length (sym is ∙ a.0) in omega (arith, long)
no_view row v kind c is (inr (inl a)) = let long : 4 ≡ 5 = ap length (sym is ∙ a.0) in omega (arith, long)
no_view row v kind c is (inr (inr a)) = let long : 4 ≡ 7 = ap length (sym is ∙ a.0) in omega (arith, long)

one_aside : (row : Row) (v w : View) (kind owner : List ℕ) (c d : ℕ) (f g : Option (List ℕ)) → IsAside row v kind owner c f → IsAside row w kind owner d g → (f ≡ g) × (v.binds ≡ w.binds)
one_aside row v w kind owner c d None None a b = (refl, a.6 ∙ sym b.6)
one_aside row v w kind owner c d None (Some t) a b = absurd (no_view row w kind d a.0 b.2)
one_aside row v w kind owner c d (Some t) None a b = absurd (no_view row v kind c b.0 a.2)
one_aside row v w kind owner c d (Some t) (Some u) a b = (ap Some (sym a.0 ∙ b.0), binds_as row v w kind c d a.2 b.2)

text_injective : {a b : List ℕ} → Text a ≡ Text b → a ≡ b
text_injective e = cc

-- so it is a table that SQL here does not understand in one reading as in the other
one_kept : (name : List ℕ) (row : Row) (v w : View) → IsViewRow row v → IsViewRow row w → is_kept_table name v ≡ is_kept_table name w
one_kept name row v w a b =
    let K : Bool → List ℕ → Option (List ℕ) → Bool = λ binds own foreign. not binds && (same_name own name && unwrap_or (option_map (same_name name) foreign) false) in
    let kinds : b.kind ≡ a.kind = text_injective (sym b.described.kind_is ∙ a.described.kind_is) in
    let owners : b.owner ≡ a.owner = text_injective (sym b.described.owner_is ∙ a.described.owner_is) in
    let names : v.name ≡ w.name = text_injective (sym a.described.name_is ∙ b.described.name_is) in
    let other : IsAside row w a.kind a.owner b.code w.foreign = subst (λ k. IsAside row w k a.owner b.code w.foreign) kinds (subst (λ o. IsAside row w b.kind o b.code w.foreign) owners b.aside) in
    let same = one_aside row v w a.kind a.owner a.code b.code v.foreign w.foreign a.aside other in
    ap (λ binds. K binds v.name v.foreign) same.1 ∙ ap (λ own. K w.binds own v.foreign) names ∙ ap (λ foreign. K w.binds w.name foreign) same.0

all_kept : (name : List ℕ) (rows : List Row) (vs ws : List View) → AllZip IsViewRow rows vs → AllZip IsViewRow rows ws → list_any (is_kept_table name) vs ≡ list_any (is_kept_table name) ws
all_kept name [] [] [] a b = refl
all_kept name [] [] (w ∷ ws) a b = absurd b
all_kept name [] (v ∷ vs) ws a b = absurd a
all_kept name (r ∷ rows) [] ws a b = absurd a
all_kept name (r ∷ rows) (v ∷ vs) [] a b = absurd b
all_kept name (r ∷ rows) (v ∷ vs) (w ∷ ws) a b =
    ap (λ own. own || list_any (is_kept_table name) vs) (one_kept name r v w a.0 b.0) ∙ ap (λ rest. is_kept_table name w || rest) (all_kept name rows vs ws a.1 b.1)

module _ (a b : Database) (sound : IsDatabase a) (sound' : IsDatabase b) (trees : b.trees ≡ a.trees) where
  tables : a.schema.tables ≡ b.schema.tables
  tables =
      let P : Trees → Type 0 = λ ts. AllZip IsTableRow (filter is_table_row (ts catalog_tree)) b.schema.tables in
      one_list _ a.schema.tables b.schema.tables sound.lists.listed.tables (subst P trees sound'.lists.listed.tables)

  declares : (name : List ℕ) (declared : ℕ → Table) (tree : ℕ) → Declares a.schema name declared tree → Declares b.schema name declared tree
  declares name declared tree h = record {
    there = ap (λ ts. named ts name) (sym tables) ∙ h.there;
    alone = ap (λ ts. find (λ (t : Table). t.tree == tree) ts) (sym tables) ∙ h.alone;
    own = ap (λ ts. list_all (λ (t : Table). not (t.tree == tree) || same_name t.name name) ts) (sym tables) ∙ h.own;
    low = h.low;
  }

  has_first : HasFirstTables a.schema → HasFirstTables b.schema
  has_first h = record {
    meta_tree = h.meta_tree;
    meta = declares (codes "meta") _ h.meta_tree h.meta;
    tree = h.tree;
    file_rev = declares (codes "file_rev") _ h.tree h.file_rev;
    unreferred =
        ap (λ ts. list_any (λ name. list_any (λ (t : Table). list_any (λ (ref : Reference). same_name ref.parent name) t.references) ts) (codes "meta" ∷ codes "file_rev" ∷ codes "approval" ∷ codes "proposal" ∷ [])) (sym tables)
        ∙ h.unreferred;
  }

  has : HasTables a.schema → HasTables b.schema
  has h = record {
    first = has_first h.first;
    approval_tree = h.approval_tree;
    approval = declares (codes "approval") _ h.approval_tree h.approval;
    proposal_tree = h.proposal_tree;
    proposal = declares (codes "proposal") _ h.proposal_tree h.proposal;
  }

  kept_same : (name : List ℕ) → list_any (is_kept_table name) b.schema.views ≡ list_any (is_kept_table name) a.schema.views
  kept_same name =
      let P : Trees → Type 0 = λ ts. AllZip IsViewRow (filter is_view_row (ts catalog_tree)) b.schema.views in
      all_kept name _ b.schema.views a.schema.views (subst P trees sound'.lists.listed.views) sound.lists.listed.views

  table_same : (name : List ℕ) → has_table b.schema name ≡ has_table a.schema name
  table_same name =
      ap (λ ts. is_some (position_from (λ (t : Table). same_name t.name name) 0 ts) || list_any (is_kept_table name) b.schema.views) (sym tables) ∙ ap (λ kept. is_some (table_named a.schema name) || kept) (kept_same name)

  later_same : has_later b.schema ≡ has_later a.schema
  later_same = ap (λ one. one || has_table b.schema (codes "proposal")) (table_same (codes "approval")) ∙ ap (λ one. has_table a.schema (codes "approval") || one) (table_same (codes "proposal"))

  same_rows : (name : List ℕ) → rows_of b name ≡ rows_of a name
  same_rows name = ap (λ ts. rows_in ts b.trees name) (sym tables) ∙ ap (λ ts. rows_in a.schema.tables ts name) trees

  pub holds_same : (history : History) → Holds a history → Holds b history
  holds_same history h = record {
    tables = has h.tables;
    version = same_rows (codes "meta") ∙ h.version;
    revisions = subst (IsPermutation (map row_of (revisions_in history))) (sym (same_rows (codes "file_rev"))) h.revisions;
    approvals = subst (IsPermutation (filter_map approval_of (revisions_in history))) (sym (same_rows (codes "approval"))) h.approvals;
    proposals = subst (IsPermutation (map proposed_row (pending_in history))) (sym (same_rows (codes "proposal"))) h.proposals;
    numbers = h.numbers;
  }

  pub holds_first_same : (history : History) → HoldsFirst a history → HoldsFirst b history
  holds_first_same history h = record {
    tables = has_first h.tables;
    first = later_same ∙ h.first;
    version = same_rows (codes "meta") ∙ h.version;
    revisions = subst (IsPermutation (map row_of (revisions_in history))) (sym (same_rows (codes "file_rev"))) h.revisions;
    approvals = h.approvals;
    proposals = h.proposals;
    numbers = h.numbers;
  }

  pub project_same : (history : History) → IsProject a history → IsProject b history
  project_same history h = elim h.holds [
    | inl second ↦ record { holds = inl (holds_same history second); stored = h.stored }
    | inr first ↦ record { holds = inr (holds_first_same history first); stored = h.stored }
  ]

-- a schema that declares all four tables has the later ones
pub two_versions : (schema : Schema) → HasTables schema → has_later schema ≡ false → ⊥
two_versions schema has none =
    let at = placed schema (codes "approval") _ has.approval.there in
    let kept = list_any (is_kept_table (codes "approval")) schema.views in
    let there : has_later schema ≡ true = ap (λ o. (is_some o || kept) || has_table schema (codes "proposal")) at.1 in
    cc
