-- A schema to which a table is added, behind the others.
use Rattle.std.proofs.Common.{◌≡◌, ◌∙◌, sym, ap, subst, inl, inr, refl, ℕ, zero, suc, ◌+◌, ◌<◌, ◌≤◌, ◌==◌, ◌++◌, ◌&&◌, ◌||◌, Bool, true, false, not, cond, List, [], ◌∷◌, Some, None, find, length, map, slice_get, codes, arith}
use Rattle.std.specs.Prelude.{fold, max, option_and_then}
use Rattle.std.specs.List.{AllByRecursion, AllZip, list_all, list_any, position_from}
use Rattle.std.proofs.Math.Nat.{le-max_left, le-max_right}
use Rattle.std.proofs.lemmas.Bool.{cases_Bool, eq-eqb, ne_eqb}
use Rattle.std.proofs.lemmas.List.Folds.{list_all-append, list_any-append}
use Rattle.sqlite_trees.proofs.ListLemmas.{all-slice_get}
use Rattle.sqlite.specs.Effect.{Database, IsDatabase}
use Rattle.sqlite.specs.Schema.{Schema}
use Rattle.sqlite.specs.Table.{Table}
use Rattle.sqlite.specs.Change.{automatics, created, next_tree, past_views}
use Rattle.sqlite_schema.specs.declared.schema.Index.{Index}
use Rattle.sqlite_schema.specs.declared.schema.Reference.{Reference}
use Rattle.sqlite_schema.specs.Names.{same_name, table_named}
use Rattle.sqlite.specs.Order.{Row}
use Rattle.sqlite_catalog.specs.Listing.{IsTableRow}
use Rattle.desk_schema.specs.Tables.{Declares, IsFree, are_referred, refers_to, table_in}
use Rattle.desk_store.specs.Tables.{cells, rows_of}
use Rattle.desk_store.proofs.Placed.{placed, rows_are}

-- ---- lists

module _ {X : Type 0} where
  shifted : (t : X → Bool) (xs : List X) (y : X) (ys : List X) (i : ℕ) → position_from t i xs ≡ None → t y ≡ true → position_from t i (xs ++ y ∷ ys) ≡ Some (i + length xs)
  shifted t [] y ys i none own = let e : i + 0 ≡ i = omega arith in ap (λ b. cond b (Some i) (position_from t (i + 1) ys)) own ∙ ap Some (sym e)
  shifted t (x ∷ xs) y ys i none own = elim (cases_Bool (t x)) [
    | inl here ↦ absurd (let e : Some i ≡ None = subst (λ b. cond b (Some i) (position_from t (i + 1) xs) ≡ None) here none in cc)
    | inr other ↦
        let rest : position_from t (i + 1) xs ≡ None = subst (λ b. cond b (Some i) (position_from t (i + 1) xs) ≡ None) other none in
        let n : i + 1 + length xs ≡ i + length (x ∷ xs) = omega arith in
        ap (λ b. cond b (Some i) (position_from t (i + 1) (xs ++ y ∷ ys))) other ∙ shifted t xs y ys (i + 1) rest own ∙ ap Some n
  ]

  none_more : (t : X → Bool) (xs ys : List X) (i : ℕ) → position_from t i xs ≡ None → ((k : ℕ) → position_from t k ys ≡ None) → position_from t i (xs ++ ys) ≡ None
  none_more t [] ys i none rest = rest i
  none_more t (x ∷ xs) ys i none rest = elim (cases_Bool (t x)) [
    | inl here ↦ absurd (let e : Some i ≡ None = subst (λ b. cond b (Some i) (position_from t (i + 1) xs) ≡ None) here none in cc)
    | inr other ↦
        let more : position_from t (i + 1) xs ≡ None = subst (λ b. cond b (Some i) (position_from t (i + 1) xs) ≡ None) other none in
        ap (λ b. cond b (Some i) (position_from t (i + 1) (xs ++ ys))) other ∙ none_more t xs ys (i + 1) more rest
  ]

  place_more : (t : X → Bool) (xs ys : List X) (i at : ℕ) → position_from t i xs ≡ Some at → position_from t i (xs ++ ys) ≡ Some at
  place_more t [] ys i at h = absurd (cc)
  place_more t (x ∷ xs) ys i at h = elim (cases_Bool (t x)) [
    | inl own ↦ ap (λ b. cond b (Some i) (position_from t (i + 1) (xs ++ ys))) own ∙ sym (ap (λ b. cond b (Some i) (position_from t (i + 1) xs)) own) ∙ h
    | inr other ↦
        ap (λ b. cond b (Some i) (position_from t (i + 1) (xs ++ ys))) other
        ∙ place_more t xs ys (i + 1) at (sym (ap (λ b. cond b (Some i) (position_from t (i + 1) xs)) other) ∙ h)
  ]

  get_more : (xs ys : List X) (at : ℕ) (x : X) → slice_get xs at ≡ Some x → slice_get (xs ++ ys) at ≡ Some x
  get_more [] ys at x h = absurd (cc)
  get_more (z ∷ xs) ys zero x h = h
  get_more (z ∷ xs) ys (suc at) x h = get_more xs ys at x h

  at_end : (xs : List X) (y : X) (ys : List X) → slice_get (xs ++ y ∷ ys) (length xs) ≡ Some y
  at_end [] y ys = refl
  at_end (x ∷ xs) y ys = at_end xs y ys

  found_more : (p : X → Bool) (xs ys : List X) (x : X) → find p xs ≡ Some x → find p (xs ++ ys) ≡ Some x
  found_more p [] ys x h = absurd (cc)
  found_more p (y ∷ xs) ys x h = elim (cases_Bool (p y)) [
    | inl own ↦ ap (λ b. cond b (Some y) (find p (xs ++ ys))) own ∙ sym (ap (λ b. cond b (Some y) (find p xs)) own) ∙ h
    | inr other ↦ ap (λ b. cond b (Some y) (find p (xs ++ ys))) other ∙ found_more p xs ys x (sym (ap (λ b. cond b (Some y) (find p xs)) other) ∙ h)
  ]

  skipped : (p : X → Bool) (xs : List X) (y : X) (ys : List X) → AllByRecursion (λ x. p x ≡ false) xs → p y ≡ true → find p (xs ++ y ∷ ys) ≡ Some y
  skipped p [] y ys h own = ap (λ b. cond b (Some y) (find p ys)) own
  skipped p (x ∷ xs) y ys h own = ap (λ b. cond b (Some x) (find p (xs ++ y ∷ ys))) h.0 ∙ skipped p xs y ys h.1 own

  all_so : (p : X → Bool) (xs : List X) → AllByRecursion (λ x. p x ≡ true) xs → list_all p xs ≡ true
  all_so p [] h = refl
  all_so p (x ∷ xs) h = ap (λ b. b && list_all p xs) h.0 ∙ all_so p xs h.1

  any_same : (p q : X → Bool) (xs : List X) → ((x : X) → p x ≡ q x) → list_any p xs ≡ list_any q xs
  any_same p q [] same = refl
  any_same p q (x ∷ xs) same = rw (same x, any_same p q xs same) refl

  pub first_part : (P : X → Type 0) (xs ys : List X) → AllByRecursion P (xs ++ ys) → AllByRecursion P xs
  first_part P [] ys a = tt
  first_part P (x ∷ xs) ys a = (a.0, first_part P xs ys a.1)

  pub last_part : (P : X → Type 0) (xs ys : List X) → AllByRecursion P (xs ++ ys) → AllByRecursion P ys
  last_part P [] ys a = a
  last_part P (x ∷ xs) ys a = last_part P xs ys a.1

  pub each_so : (P Q : X → Type 0) (xs : List X) → ((x : X) → P x → Q x) → AllByRecursion P xs → AllByRecursion Q xs
  each_so P Q [] f a = tt
  each_so P Q (x ∷ xs) f a = (f x a.0, each_so P Q xs f a.1)

  pub each_both : (P Q R : X → Type 0) (xs : List X) → ((x : X) → P x → Q x → R x) → AllByRecursion P xs → AllByRecursion Q xs → AllByRecursion R xs
  each_both P Q R [] f a b = tt
  each_both P Q R (x ∷ xs) f a b = (f x a.0 b.0, each_both P Q R xs f a.1 b.1)

either_off : (b : Bool) → (b || (false || false)) ≡ b
either_off true = refl
either_off false = refl

-- ---- the tree of the next table

grows_tables : (n : ℕ) (ts : List Table) → n ≤ fold (λ m (t : Table). max m (t.tree + 1)) n ts
grows_tables n [] = omega arith
grows_tables n (t ∷ ts) = let e = grows_tables (max n (t.tree + 1)) ts in let f = le-max_left n (t.tree + 1) in omega arith

grows_indexes : (n : ℕ) (is : List Index) → n ≤ fold (λ m (i : Index). max m (i.tree + 1)) n is
grows_indexes n [] = omega arith
grows_indexes n (i ∷ is) = let e = grows_indexes (max n (i.tree + 1)) is in let f = le-max_left n (i.tree + 1) in omega arith

under : (n : ℕ) (ts : List Table) → AllByRecursion (λ (t : Table). t.tree < fold (λ m (x : Table). max m (x.tree + 1)) n ts) ts
under n [] = tt
under n (t ∷ ts) =
    let e = grows_tables (max n (t.tree + 1)) ts in
    let f = le-max_right n (t.tree + 1) in
    (omega arith, under (max n (t.tree + 1)) ts)

-- it is above those of all tables
pub below_next : (schema : Schema) → AllByRecursion (λ (t : Table). t.tree < next_tree schema) schema.tables
below_next schema =
    let n = fold (λ m (t : Table). max m (t.tree + 1)) (past_views schema) schema.tables in
    let e = grows_indexes n schema.indexes in
    each_so (λ (t : Table). t.tree < n) (λ (t : Table). t.tree < next_tree schema) schema.tables (λ t low. omega arith) (under (past_views schema) schema.tables)

low_of : (rows : List Row) (tables : List Table) → AllZip IsTableRow rows tables → AllByRecursion (λ (t : Table). t.tree < 65536) tables
low_of [] [] zip = tt
low_of [] (t ∷ tables) zip = absurd zip
low_of (r ∷ rows) [] zip = absurd zip
low_of (r ∷ rows) (t ∷ tables) zip = (zip.0.described.low, low_of rows tables zip.1)

-- the trees of a database that can be opened are low
pub are_low : (db : Database) → IsDatabase db → AllByRecursion (λ (t : Table). t.tree < 65536) db.schema.tables
are_low db sound = low_of _ db.schema.tables sound.lists.listed.tables

-- ---- tables and names

module _ (schema : Schema) (table : Table) where
  abbrev new : Table
  new = record table { tree = next_tree schema }

  pub old_part : (P : Table → Type 0) → AllByRecursion P (created schema table).tables → AllByRecursion P schema.tables
  old_part P = first_part P schema.tables (new ∷ [])

  pub new_part : (P : Table → Type 0) → AllByRecursion P (created schema table).tables → P new
  new_part P all = (last_part P schema.tables (new ∷ []) all).0

  -- a table that is there is there yet
  pub there_yet : (name : List ℕ) (it : Table) → table_in schema name ≡ Some it → table_in (created schema table) name ≡ Some it
  there_yet name it there =
      let at = placed schema name it there in
      ap (λ o. option_and_then (slice_get (created schema table).tables) o) (place_more (λ (t : Table). same_name t.name name) schema.tables (new ∷ []) 0 at.0 at.1) ∙ get_more schema.tables (new ∷ []) at.0 it at.2

  -- a table that is declared is declared yet
  module _ (name : List ℕ) (of : ℕ → Table) (own : (n : ℕ) → (of n).tree ≡ n) (tree : ℕ) (declared : Declares schema name of tree) where
    pub under_next : tree < next_tree schema
    under_next =
        let at = placed schema name (of tree) declared.there in
        subst (λ n. n < next_tree schema) (own tree) (all-slice_get (λ (t : Table). t.tree < next_tree schema) schema.tables at.0 (of tree) at.2 (below_next schema))

    pub declared_yet : Declares (created schema table) name of tree
    declared_yet =
        let under = under_next in
        let other : (next_tree schema == tree) ≡ false = ne_eqb (next_tree schema) tree (λ same. omega arith) in
        record {
          there = there_yet name (of tree) declared.there;
          alone = found_more (λ (t : Table). t.tree == tree) schema.tables (new ∷ []) (of tree) declared.alone;
          own = list_all-append (λ (t : Table). not (t.tree == tree) || same_name t.name name) schema.tables (new ∷ []) ∙ rw (declared.own, other) refl;
          low = declared.low;
        }

  -- a free name is free yet, if the new table and its indexes have another
  pub free_yet : (name : List ℕ) → same_name table.name name ≡ false → ((n k : ℕ) → position_from (λ (i : Index). same_name i.name name) k (automatics (record table { tree = n }) 0 (n + 1) table.uniques) ≡ None) → IsFree schema name
      → IsFree (created schema table) name
  free_yet name other none free = record {
    no_table = none_more (λ (t : Table). same_name t.name name) schema.tables (new ∷ []) 0 free.no_table (λ k. ap (λ b. cond b (Some k) None) other);
    no_view = free.no_view;
    no_index = none_more (λ (i : Index). same_name i.name name) schema.indexes _ 0 free.no_index (λ k. none (next_tree schema) k);
  }

  -- a table that refers to none changes nothing of what is referred to
  module _ (plain : table.references ≡ []) where
    refers_so : (name : List ℕ) → refers_to (created schema table) name ≡ refers_to schema name
    refers_so name =
        let refers = λ (t : Table). list_any (λ (ref : Reference). same_name ref.parent name) t.references in
        list_any-append refers schema.tables (new ∷ []) ∙ rw plain (either_off (list_any refers schema.tables))

    pub referred_so : are_referred (created schema table) ≡ are_referred schema
    referred_so = any_same (refers_to (created schema table)) (refers_to schema) (codes "meta" ∷ codes "file_rev" ∷ codes "approval" ∷ codes "proposal" ∷ []) refers_so

-- a table that is added is declared, if its name was free and its tree is low
pub declared_now : (schema : Schema) (name : List ℕ) (of : ℕ → Table) → ((n : ℕ) → record (of 0) { tree = n } ≡ of n) → same_name (of 0).name name ≡ true → table_named schema name ≡ None → next_tree schema < 65536
    → Declares (created schema (of 0)) name of (next_tree schema)
declared_now schema name of shape named free low =
    let tree = next_tree schema in
    let new : Table = record (of 0) { tree = tree } in
    let n : 0 + length schema.tables ≡ length schema.tables = omega arith in
    let place : table_named (created schema (of 0)) name ≡ Some (length schema.tables) = shifted (λ (t : Table). same_name t.name name) schema.tables new [] 0 free named ∙ ap Some n in
    let others : AllByRecursion (λ (t : Table). (t.tree == tree) ≡ false) schema.tables = each_so (λ (t : Table). t.tree < tree) (λ (t : Table). (t.tree == tree) ≡ false) schema.tables (λ t lower. ne_eqb t.tree tree (λ same. omega arith)) (below_next schema) in
    let is_own = λ (t : Table). not (t.tree == tree) || same_name t.name name in
    record {
      there = ap (λ o. option_and_then (slice_get (created schema (of 0)).tables) o) place ∙ at_end schema.tables new [] ∙ ap Some (shape tree);
      alone = skipped (λ (t : Table). t.tree == tree) schema.tables new [] others (eq-eqb tree tree refl) ∙ ap Some (shape tree);
      own = list_all-append is_own schema.tables (new ∷ [])
          ∙ rw (all_so is_own schema.tables (each_so (λ (t : Table). (t.tree == tree) ≡ false) (λ t. is_own t ≡ true) schema.tables (λ t other. ap (λ b. not b || same_name t.name name) other) others), eq-eqb tree tree refl, named) refl;
      low = low;
    }

-- ---- rows

-- of a table that was there, the tree is as it was
pub tree_stays : (old new : Database) (name : List ℕ) (table : Table) → table_in old.schema name ≡ Some table → AllByRecursion (λ (t : Table). new.trees t.tree ≡ old.trees t.tree) old.schema.tables → new.trees table.tree ≡ old.trees table.tree
tree_stays old new name table there same =
    let at = placed old.schema name table there in
    all-slice_get (λ (t : Table). new.trees t.tree ≡ old.trees t.tree) old.schema.tables at.0 table at.2 same

-- and so are the rows
pub rows_stay : (old new : Database) (name : List ℕ) (table : Table) → table_in old.schema name ≡ Some table → table_in new.schema name ≡ Some table → AllByRecursion (λ (t : Table). new.trees t.tree ≡ old.trees t.tree) old.schema.tables
    → rows_of new name ≡ rows_of old name
rows_stay old new name table there yet same = rows_are new name table yet ∙ ap (map (cells table)) (tree_stays old new name table there same) ∙ sym (rows_are old name table there)
