-- That a table is the only one with its tree, and that its tree is low, follows from what the database lists.
use Rattle.std.proofs.Common.{◌≡◌, ◌≢◌, ◌∙◌, arith, refl, inl, inr, not, ◌&&◌, ◌||◌, sym, ap, subst, ℕ, pos, zero, suc, ◌+◌, ◌<◌, ◌==◌, Bool, true, false, cond, List, [], ◌∷◌, Some, slice_get, filter, find}
use Rattle.std.specs.Prelude.{option_and_then}
use Rattle.std.specs.List.{AllByRecursion, AllZip, list_all, position_from}
use Rattle.std.specs.declared.cmp.Ordering.TheVariants.{Less}
use Rattle.std.proofs.lemmas.Bool.{cases_Bool, eq-eqb, ne_eqb}
use Rattle.sqlite.specs.Order.{Row, value_cmp}
use Rattle.sqlite.specs.Schema.{Schema}
use Rattle.sqlite.specs.Table.{Table}
use Rattle.sqlite.specs.declared.types.Value.TheVariants.{Int}
use Rattle.sqlite_trees.specs.Tree.{IsTable, Trees, rowid}
use Rattle.sqlite_trees.specs.Objects.{catalog_tree}
use Rattle.sqlite_catalog.specs.Listing.{IsSound, IsTableRow, is_table_row}
use Rattle.sqlite_catalog.proofs.LayoutLemmas.{rising_trees}
use Rattle.sqlite_schema.specs.Names.{same_name}
use Rattle.desk_schema.specs.Tables.{Declares, table_in}
use Rattle.desk_store.proofs.Placed.{placed}

abbrev Below : Row → Row → Type 0
Below a b = value_cmp (rowid a) (rowid b) ≡ Less

below_kept : (a : Row) (p : Row → Bool) (rows : List Row) → AllByRecursion (Below a) rows → AllByRecursion (Below a) (filter p rows)
below_kept a p [] h = tt
below_kept a p (r ∷ rows) h = step (p r) (below_kept a p rows h.1)
  where
    step : (b : Bool) → AllByRecursion (Below a) (filter p rows) → AllByRecursion (Below a) (cond b (r ∷ filter p rows) (filter p rows))
    step true more = (h.0, more)
    step false more = more

table_kept : (p : Row → Bool) (rows : List Row) → IsTable rows → IsTable (filter p rows)
table_kept p [] h = tt
table_kept p (r ∷ rows) h = step (p r) (table_kept p rows h.1)
  where
    step : (b : Bool) → IsTable (filter p rows) → IsTable (cond b (r ∷ filter p rows) (filter p rows))
    step true more = (below_kept r p rows h.0, more)
    step false more = more

apart_from : (a : Row) (s : ℕ) (rows : List Row) (tables : List Table) → rowid a ≡ Int (pos (s + 1)) → AllByRecursion (Below a) rows → AllZip IsTableRow rows tables → (at : ℕ) (t : Table) → slice_get tables at ≡ Some t → s ≢ t.tree
apart_from a s [] [] id below zip at t is = absurd (cc)
apart_from a s [] (x ∷ tables) id below zip at t is = absurd zip
apart_from a s (r ∷ rows) [] id below zip at t is = absurd (cc)
apart_from a s (r ∷ rows) (x ∷ tables) id below zip zero t is =
    let same : x ≡ t = cc in
    λ e. rising_trees a r id zip.0.described.id below.0 (e ∙ sym (ap (λ (u : Table). u.tree) same))
apart_from a s (r ∷ rows) (x ∷ tables) id below zip (suc at) t is = apart_from a s rows tables id below.1 zip.1 at t is

-- each listed table is the first with its tree, and its tree is low
found_alone : (rows : List Row) (tables : List Table) → IsTable rows → AllZip IsTableRow rows tables → (at : ℕ) (t : Table) → slice_get tables at ≡ Some t
    → (find (λ (u : Table). u.tree == t.tree) tables ≡ Some t) × (t.tree < 65536)
found_alone [] [] up zip at t is = absurd (cc)
found_alone [] (x ∷ tables) up zip at t is = absurd zip
found_alone (r ∷ rows) [] up zip at t is = absurd zip
found_alone (r ∷ rows) (x ∷ tables) up zip zero t is =
    let same : x ≡ t = cc in
    let here : (x.tree == t.tree) ≡ true = eq-eqb x.tree t.tree (ap (λ (u : Table). u.tree) same) in (
      ap (λ b. cond b (Some x) (find (λ (u : Table). u.tree == t.tree) tables)) here ∙ ap Some same,
      subst (λ (u : Table). u.tree < 65536) same zip.0.described.low,
    )
found_alone (r ∷ rows) (x ∷ tables) up zip (suc at) t is =
    let other : (x.tree == t.tree) ≡ false = ne_eqb x.tree t.tree (apart_from r x.tree rows tables zip.0.described.id up.0 zip.1 at t is) in
    let rest = found_alone rows tables up.1 zip.1 at t is in
    (ap (λ b. cond b (Some x) (find (λ (u : Table). u.tree == t.tree) tables)) other ∙ rest.0, rest.1)

-- where no table has a tree, all of them are others
none_own : (name : List ℕ) (tree : ℕ) (tables : List Table) → ((at : ℕ) (t : Table) → slice_get tables at ≡ Some t → tree ≢ t.tree) → list_all (λ (u : Table). not (u.tree == tree) || same_name u.name name) tables ≡ true
none_own name tree [] apart = refl
none_own name tree (x ∷ tables) apart =
    let other : (x.tree == tree) ≡ false = ne_eqb x.tree tree (λ e. apart zero x refl (sym e)) in
    ap (λ b. (not b || same_name x.name name) && list_all (λ (u : Table). not (u.tree == tree) || same_name u.name name) tables) other ∙ none_own name tree tables (λ at. apart (suc at))

or_true : (b : Bool) → (b || true) ≡ true
or_true true = refl
or_true false = refl

-- a table that has the name is the only one with its tree
found_own : (name : List ℕ) (rows : List Row) (tables : List Table) → IsTable rows → AllZip IsTableRow rows tables → (at : ℕ) (t : Table) → slice_get tables at ≡ Some t → same_name t.name name ≡ true
    → list_all (λ (u : Table). not (u.tree == t.tree) || same_name u.name name) tables ≡ true
found_own name [] [] up zip at t is own = absurd (cc)
found_own name [] (x ∷ tables) up zip at t is own = absurd zip
found_own name (r ∷ rows) [] up zip at t is own = absurd zip
found_own name (r ∷ rows) (x ∷ tables) up zip zero t is own =
    let same : x ≡ t = cc in
    let first : same_name x.name name ≡ true = ap (λ (u : Table). same_name u.name name) same ∙ own in
    ap (λ b. (not (x.tree == t.tree) || b) && list_all (λ (u : Table). not (u.tree == t.tree) || same_name u.name name) tables) first
    ∙ ap (λ b. b && list_all (λ (u : Table). not (u.tree == t.tree) || same_name u.name name) tables) (or_true (not (x.tree == t.tree)))
    ∙ none_own name t.tree tables (λ k u at. subst (λ (v : Table). v.tree ≢ u.tree) same (apart_from r x.tree rows tables zip.0.described.id up.0 zip.1 k u at))
found_own name (r ∷ rows) (x ∷ tables) up zip (suc at) t is own =
    let other : (x.tree == t.tree) ≡ false = ne_eqb x.tree t.tree (apart_from r x.tree rows tables zip.0.described.id up.0 zip.1 at t is) in
    ap (λ b. (not b || same_name x.name name) && list_all (λ (u : Table). not (u.tree == t.tree) || same_name u.name name) tables) other ∙ found_own name rows tables up.1 zip.1 at t is own

-- the table that is found under a name has it
has_name : (name : List ℕ) (tables all : List Table) (n : ℕ) (t : Table) → ((k : ℕ) → slice_get all (n + k) ≡ slice_get tables k) → option_and_then (slice_get all) (position_from (λ (u : Table). same_name u.name name) n tables) ≡ Some t
    → same_name t.name name ≡ true
has_name name [] all n t shifted e = absurd (cc)
has_name name (x ∷ tables) all n t shifted e = elim (cases_Bool (same_name x.name name)) [
  | inl own ↦
      let here : slice_get all n ≡ Some t = subst (λ b. option_and_then (slice_get all) (cond b (Some n) (position_from (λ (u : Table). same_name u.name name) (n + 1) tables)) ≡ Some t) own e in
      let first : slice_get all n ≡ Some x = ap (slice_get all) (omega arith) ∙ shifted 0 in
      let both : Some x ≡ Some t = sym first ∙ here in
      let same : x ≡ t = cc in
      subst (λ (u : Table). same_name u.name name ≡ true) same own
  | inr other ↦
      has_name name tables all (n + 1) t (λ k. ap (slice_get all) (omega arith) ∙ shifted (suc k))
      (subst (λ b. option_and_then (slice_get all) (cond b (Some n) (position_from (λ (u : Table). same_name u.name name) (n + 1) tables)) ≡ Some t) other e)
]

-- where a table is declared as ours, it is our table
pub declared_here : (schema : Schema) (db : Trees) (name : List ℕ) (declared : ℕ → Table) (tree : ℕ) → IsSound schema db → IsTable (db catalog_tree) → table_in schema name ≡ Some (declared tree) → (declared tree).tree ≡ tree
    → Declares schema name declared tree
declared_here schema db name declared tree sound up there tree_is =
    let rows = table_kept is_table_row (db catalog_tree) up in
    let zip = sound.lists.listed.tables in
    let at = placed schema name (declared tree) there in
    let alone = found_alone (filter is_table_row (db catalog_tree)) schema.tables rows zip at.0 (declared tree) at.2 in
    let own = found_own name (filter is_table_row (db catalog_tree)) schema.tables rows zip at.0 (declared tree) at.2 (has_name name schema.tables schema.tables 0 (declared tree) (λ k. ap (slice_get schema.tables) (omega arith)) there) in
    record {
      there = there;
      alone = subst (λ n. find (λ (u : Table). u.tree == n) schema.tables ≡ Some (declared tree)) tree_is alone.0;
      own = subst (λ n. list_all (λ (u : Table). not (u.tree == n) || same_name u.name name) schema.tables ≡ true) tree_is own;
      low = subst (λ n. n < 65536) tree_is alone.1;
    }
