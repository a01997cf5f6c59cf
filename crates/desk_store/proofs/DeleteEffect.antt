-- What a DELETE does, from any table that nothing refers to: the rows that pass its test are gone.
use Rattle.std.proofs.Common.{nat_le, ◌^◌, ◌≡◌, ◌≢◌, ◌∙◌, sym, ap, subst, refl, inl, inr, ℕ, suc, ℤ, Bool, true, false, cond, not, ◌&&◌, ◌||◌, ◌==◌, List, [], ◌∷◌, filter, map, slice_get, Some, None, Option, Ok, IsTrue, arith}
use Rattle.std.specs.Prelude.{IsPermutation, option_and_then, option_map}
use Rattle.std.specs.List.{AllByRecursion, AllPairs, filter_map, find, flat_map, list_all, list_any}
use Rattle.std.proofs.lemmas.Bool.{cases_Bool}
use Rattle.std.proofs.lemmas.Bool.Decides.{Decides-int_eq}
use Rattle.std.proofs.lemmas.Cmp.{tied_itself}
use Rattle.std.proofs.lemmas.List.Sorted.{list_any-IsPermutation}
use Rattle.sqlite_value.specs.declared.keys.Order.{Order}
use Rattle.sqlite_value.proofs.OrderLemmas.{value_cmp-Int, value_cmp_total}
use Rattle.sqlite_catalog.proofs.SoundLemmas.{lowered}
use Rattle.sqlite.specs.declared.types.Value.{Value}
use Rattle.sqlite.specs.declared.types.Value.TheVariants.{Null, Int, Real, Text as Words, Blob as Bytes}
use Rattle.sqlite.specs.Order.{Row, column}
use Rattle.sqlite.specs.Tree.{Trees, rowid, has_rowid, without_rowid}
use Rattle.sqlite.specs.Term.{Term, col, holds}
use Rattle.sqlite.specs.Schema.{Schema}
use Rattle.sqlite.specs.Table.{Table}
use Rattle.sqlite.specs.Command.TheVariants.{Delete}
use Rattle.sqlite.specs.Rows.{Written}
use Rattle.sqlite.specs.Rowids.TheVariants.{Given}
use Rattle.sqlite.specs.Effect.{Database}
use Rattle.sqlite.specs.Does.{Tally, Does}
use Rattle.sqlite.specs.declared.run.Mode.{Mode}
use Rattle.sqlite.proofs.Callers.{one_step}
use Rattle.sqlite_trees.specs.View.{is_int}
use Rattle.sqlite_rules.specs.Calls.{ids_of}
use Rattle.sqlite_rules.specs.Edit.{edit_of, id_in, taken_by, without_all}
use Rattle.sqlite_rules.specs.Action.{pairs, work_by, work_for, works}
use Rattle.sqlite_rules.specs.declared.action.Deed.{Deed}
use Rattle.sqlite_schema.specs.Names.{same_name}
use Rattle.sqlite_schema.specs.Rules.{ParentKey, declared_order, key_in, key_places, parent_key}
use Rattle.sqlite_schema.specs.declared.program.Program.{Program}
use Rattle.sqlite_schema.specs.declared.schema.Keys.{Keys}
use Rattle.sqlite_schema.specs.declared.schema.Reference.{Reference}
use Rattle.desk_store.proofs.OwnRowids.{each_id, neither, one_id}
use Rattle.desk_store.proofs.RowsAnswered.{filter_all, query, rows_answered}
use Rattle.desk_store.proofs.InsertEffect.{same_value, went}
use Rattle.desk_schema.specs.Tables.{is_own_tree, refers_to}
use Rattle.desk_store.specs.Tables.{AreKeys}

-- ---- lists

module _ {X : Type 0} where
  filter_again : (p q : X → Bool) (xs : List X) → filter (λ x. not (p x)) (filter (λ x. not (q x)) xs) ≡ filter (λ x. not (q x || p x)) xs
  filter_again p q [] = refl
  filter_again p q (x ∷ xs) = elim (q x) as (λ b. filter (λ y. not (p y)) (cond (not b) (x ∷ filter (λ y. not (q y)) xs) (filter (λ y. not (q y)) xs)) ≡ cond (not (b || p x)) (x ∷ filter (λ y. not (q y || p y)) xs) (filter (λ y. not (q y || p y)) xs)) [
    | true ↦ filter_again p q xs
    | false ↦ ap (λ more. cond (not (p x)) (x ∷ more) more) (filter_again p q xs)
  ]

  pub filter_same : (p q : X → Bool) (xs : List X) → AllByRecursion (λ x. p x ≡ q x) xs → filter p xs ≡ filter q xs
  filter_same p q [] h = refl
  filter_same p q (x ∷ xs) h = ap (λ b. cond b (x ∷ filter p xs) (filter p xs)) h.0 ∙ ap (λ more. cond (q x) (x ∷ more) more) (filter_same p q xs h.1)

  any_map : {Y : Type 0} (p : Y → Bool) (f : X → Y) (xs : List X) → list_any p (map f xs) ≡ list_any (λ x. p (f x)) xs
  any_map p f [] = refl
  any_map p f (x ∷ xs) = ap (λ b. p (f x) || b) (any_map p f xs)

  all_and : (P Q R : X → Type 0) (xs : List X) → ((x : X) → P x → Q x → R x) → AllByRecursion P xs → AllByRecursion Q xs → AllByRecursion R xs
  all_and P Q R [] f a b = tt
  all_and P Q R (x ∷ xs) f a b = (f x a.0 b.0, all_and P Q R xs f a.1 b.1)

  -- An element is among those that pass exactly if it passes, where no two are the same.
  module _ (same : X → X → Bool) (test : X → Bool) where
    abbrev Apart : List X → Type 0
    Apart [] = Unit {0}
    Apart (x ∷ xs) = AllByRecursion (λ y. (same x y ≡ false) × (same y x ≡ false)) xs × Apart xs

    none_same : (x : X) (xs : List X) → AllByRecursion (λ y. same y x ≡ false) xs → list_any (λ y. same y x) (filter test xs) ≡ false
    none_same x [] h = refl
    none_same x (y ∷ xs) h = elim (test y) as (λ b. list_any (λ z. same z x) (cond b (y ∷ filter test xs) (filter test xs)) ≡ false) [
      | true ↦ rw (h.0) (none_same x xs h.1)
      | false ↦ none_same x xs h.1
    ]

    first_found : (x : X) (xs : List X) (b : Bool) → same x x ≡ true → list_any (λ y. same y x) (filter test xs) ≡ false → list_any (λ y. same y x) (cond b (x ∷ filter test xs) (filter test xs)) ≡ b
    first_found x xs true own none = rw (own) refl
    first_found x xs false own none = none

    later_found : (x y : X) (xs : List X) (b : Bool) → same x y ≡ false → list_any (λ z. same z y) (filter test xs) ≡ test y → list_any (λ z. same z y) (cond b (x ∷ filter test xs) (filter test xs)) ≡ test y
    later_found x y xs true other rest = rw (other) rest
    later_found x y xs false other rest = rest

    pub found_passes : (xs : List X) → AllByRecursion (λ x. same x x ≡ true) xs → Apart xs → AllByRecursion (λ x. list_any (λ y. same y x) (filter test xs) ≡ test x) xs
    found_passes [] own apart = tt
    found_passes (x ∷ xs) own apart = (
      first_found x xs (test x) own.0 (none_same x xs (all_and _ _ (λ y. same y x ≡ false) xs (λ y both _. both.1) apart.0 apart.0)),
      all_and _ _ (λ y. list_any (λ z. same z y) (cond (test x) (x ∷ filter test xs) (filter test xs)) ≡ test y) xs (λ y both rest. later_found x y xs (test x) both.0 rest) apart.0 (found_passes xs own.1 apart.1),
    )

-- ---- the rowids that are taken out

-- what is left when rowids are taken out
left_without : (ids : List ℤ) (rows : List Row) → without_all rows ids ≡ filter (λ r. not (list_any (λ id. has_rowid id r) ids)) rows
left_without [] rows = sym (filter_all rows)
left_without (id ∷ ids) rows = left_without ids (without_rowid id rows) ∙ filter_again (λ r. list_any (λ i. has_rowid i r) ids) (has_rowid id) rows

abbrev pub have_one_id : Row → Row → Bool
have_one_id a b = has_rowid (id_in (rowid a)) b

own_id : (v : Value) (r : Row) → rowid r ≡ v → IsTrue (is_int v) → have_one_id r r ≡ true
own_id (Int n) r e h = rw (e, tied_itself value_cmp_total (Int n))
own_id Null r e h = absurd (cc)
own_id (Real x) r e h = absurd (cc)
own_id (Words t) r e h = absurd (cc)
own_id (Bytes b) r e h = absurd (cc)

apart_ids : (v w : Value) (r s : Row) → rowid r ≡ v → rowid s ≡ w → IsTrue (is_int v) → IsTrue (is_int w) → v ≢ w → have_one_id r s ≡ false
apart_ids (Int m) (Int n) r s e f h k other = elim (cases_Bool (have_one_id r s)) [
  | inl same ↦ absurd (other (ap Int (sym ((Decides-int_eq n m).0 (rw (e, f, value_cmp-Int n m) at same)))))
  | inr differ ↦ differ
]
apart_ids Null w r s e f h k other = absurd (cc)
apart_ids (Real x) w r s e f h k other = absurd (cc)
apart_ids (Words t) w r s e f h k other = absurd (cc)
apart_ids (Bytes b) w r s e f h k other = absurd (cc)
apart_ids (Int m) Null r s e f h k other = absurd (cc)
apart_ids (Int m) (Real x) r s e f h k other = absurd (cc)
apart_ids (Int m) (Words t) r s e f h k other = absurd (cc)
apart_ids (Int m) (Bytes b) r s e f h k other = absurd (cc)

all_whole : (rows : List Row) → AreKeys (map one_id rows) → AllByRecursion (λ row. IsTrue (is_int (rowid row))) rows
all_whole rows keyed = each_id (λ v. IsTrue (is_int v)) rows keyed.whole

own_ids : (rows : List Row) → AllByRecursion (λ row. IsTrue (is_int (rowid row))) rows → AllByRecursion (λ row. have_one_id row row ≡ true) rows
own_ids rows whole = all_and _ _ (λ row. have_one_id row row ≡ true) rows (λ row h _. own_id (rowid row) row refl h) whole whole

ids_apart : (test : Row → Bool) (rows : List Row) → AllByRecursion (λ row. IsTrue (is_int (rowid row))) rows → AllPairs (λ row later. column row 0 ≢ column later 0) (map one_id rows) → Apart have_one_id test rows
ids_apart test [] whole apart = tt
ids_apart test (row ∷ rows) whole apart =
    let others = each_id (λ v. rowid row ≢ v) rows (λ k d within. apart 0 (suc k) d (omega arith) (omega arith)) in (
      all_and _ _ (λ later. (have_one_id row later ≡ false) × (have_one_id later row ≡ false)) rows
          (λ later h other. (apart_ids (rowid row) (rowid later) row later refl refl whole.0 h other, apart_ids (rowid later) (rowid row) later row refl refl h whole.0 (λ e. other (sym e)))) whole.1 others,
      ids_apart test rows whole.1 (λ i j d low within. apart (suc i) (suc j) d (omega arith) (omega arith)),
    )

-- where each row has a rowid of its own, those that pass are taken out, and no other
taken_out : (test : Row → Bool) (rows shown : List Row) → AreKeys (map one_id rows) → IsPermutation (map one_id (filter test rows)) shown → without_all rows (ids_of shown) ≡ filter (λ row. not (test row)) rows
taken_out test rows shown keyed same =
    let whole = all_whole rows keyed in
    let found = found_passes have_one_id test rows (own_ids rows whole) (ids_apart test rows whole keyed.apart) in
    let any : (row : Row) → list_any (λ id. has_rowid id row) (ids_of shown) ≡ list_any (λ other. have_one_id other row) (filter test rows) = λ row.
    any_map (λ id. has_rowid id row) (λ (r : Row). id_in (rowid r)) shown
    ∙ sym (list_any-IsPermutation (λ (r : Row). has_rowid (id_in (rowid r)) row) (map one_id (filter test rows)) shown same)
    ∙ any_map (λ (r : Row). has_rowid (id_in (rowid r)) row) one_id (filter test rows) in
    left_without (ids_of shown) rows
    ∙ filter_same (λ row. not (list_any (λ id. has_rowid id row) (ids_of shown))) (λ row. not (test row)) rows (all_and _ _ _ rows (λ row h _. ap not (any row ∙ h)) found found)

-- ---- what follows by foreign keys

both : (a b : Bool) → (a && b) ≡ true → (a ≡ true) × (b ≡ true)
both true b h = (refl, h)
both false b h = absurd (cc)

found_in : (p q : Table → Bool) (tables : List Table) (t : Table) → list_all q tables ≡ true → find p tables ≡ Some t → (p t ≡ true) × (q t ≡ true)
found_in p q [] t all h = absurd (cc)
found_in p q (x ∷ tables) t all h = elim (cases_Bool (p x)) [
  | inl here ↦ let e : x ≡ t = only (subst (λ b. cond b (Some x) (find p tables) ≡ Some t) here h) in (subst (λ y. p y ≡ true) e here, subst (λ y. q y ≡ true) e (both (q x) (list_all q tables) all).0)
  | inr other ↦ found_in p q tables t (both (q x) (list_all q tables) all).1 (subst (λ b. cond b (Some x) (find p tables) ≡ Some t) other h)
]
  where
    only : {a b : Table} → Some a ≡ Some b → a ≡ b
    only e = cc

-- the key that a reference points to is of the table that it names
key_tree : (t : Table) (places : Option (List ℕ)) (key : ParentKey) → option_and_then (key_in t) places ≡ Some key → key.0 ≡ t.tree
key_tree t None key h = absurd (cc)
key_tree t (Some places) key h = of (declared_order t places) h
  where
    of : (o : Option Order) → option_map (λ (x : Order). (t.tree, places, x)) o ≡ Some key → key.0 ≡ t.tree
    of None e = absurd (cc)
    of (Some x) e = let same : (t.tree, places, x) ≡ key = cc in sym (ap (λ (k : ParentKey). k.0) same)

module _ (schema : Schema) (name : List ℕ) (tree : ℕ) (own : is_own_tree schema name tree ≡ true) where
  elsewhere : (t : Table) (parent : List ℕ) → same_name parent name ≡ false → same_name t.name parent ≡ true → (not (t.tree == tree) || same_name t.name name) ≡ true → (t.tree == tree) ≡ false
  elsewhere t parent other named or = elim (cases_Bool (t.tree == tree)) [
    | inl here ↦
        let of_name : same_name t.name name ≡ true = subst (λ b. (not b || same_name t.name name) ≡ true) here or in
        let same : same_name parent name ≡ true = (lowered parent name).1 (sym ((lowered t.name parent).0 named) ∙ (lowered t.name name).0 of_name) in
        absurd (let e = sym same ∙ other in cc)
    | inr apart ↦ apart
  ]

  no_key : (ref : Reference) (o : Option Table) → find (λ (t : Table). same_name t.name ref.parent) schema.tables ≡ o → same_name ref.parent name ≡ false → (key : ParentKey)
      → option_and_then (λ (t : Table). option_and_then (key_in t) (key_places t ref.parent_columns)) o ≡ Some key → (key.0 == tree) ≡ false
  no_key ref None is other key h = absurd (cc)
  no_key ref (Some t) is other key h =
      let it = found_in (λ (t : Table). same_name t.name ref.parent) (λ (t : Table). not (t.tree == tree) || same_name t.name name) schema.tables t own is in
      subst (λ n. (n == tree) ≡ false) (sym (key_tree t (key_places t ref.parent_columns) key h)) (elsewhere t ref.parent other it.0 it.1)

  idle : (keys : Keys) (olds : List Row) (child : Table) (ref : Reference) (deed : Option Deed) (key : Option ParentKey) → ((k : ParentKey) → key ≡ Some k → (k.0 == tree) ≡ false)
      → work_by 0 tree (pairs olds []) child ref deed key ≡ None
  idle keys olds child ref None key h = refl
  idle keys olds child ref (Some deed) None h = refl
  idle keys olds child ref (Some deed) (Some key) h = rw (h key refl) refl

  none_of : (keys : Keys) (olds : List Row) (child : Table) (refs : List Reference) → list_any (λ (ref : Reference). same_name ref.parent name) refs ≡ false → filter_map (work_for schema keys 0 tree olds [] child) refs ≡ []
  none_of keys olds child [] none = refl
  none_of keys olds child (ref ∷ refs) none =
      let parts = neither (same_name ref.parent name) (list_any (λ (ref : Reference). same_name ref.parent name) refs) none in
      let none_here : work_for schema keys 0 tree olds [] child ref ≡ None = idle keys olds child ref _ (parent_key schema.tables ref) (no_key ref _ refl parts.0) in
      rw (none_here, none_of keys olds child refs parts.1)

  nothing_from : (keys : Keys) (olds : List Row) (tables : List Table) → list_any (λ (t : Table). list_any (λ (ref : Reference). same_name ref.parent name) t.references) tables ≡ false
      → flat_map (λ (child : Table). filter_map (work_for schema keys 0 tree olds [] child) child.references) tables ≡ []
  nothing_from keys olds [] none = refl
  nothing_from keys olds (t ∷ tables) none =
      let parts = neither (list_any (λ (ref : Reference). same_name ref.parent name) t.references) (list_any (λ (t : Table). list_any (λ (ref : Reference). same_name ref.parent name) t.references) tables) none in
      rw (none_of keys olds t t.references parts.0, nothing_from keys olds tables parts.1)

  -- no action follows, since no table refers to this one
  pub no_deeds : (keys : Keys) (olds : List Row) → refers_to schema name ≡ false → works schema keys 0 tree olds [] ≡ []
  no_deeds keys olds unreferred = nothing_from keys olds schema.tables unreferred

-- ---- the statement

-- The rows of a tree that pass a test are gone, and the other tables have what they had.
pub record Takes (tree : ℕ) (test : Row → Bool) (db after : Database) : Type 0 where
  pub schema : after.schema ≡ db.schema
  pub rows : after.trees tree ≡ filter (λ row. not (test row)) (db.trees tree)
  pub others : AllByRecursion (λ t. t.tree ≢ tree → after.trees t.tree ≡ db.trees t.tree) db.schema.tables

-- the program of a DELETE
abbrev pub deleting : List Term → ℕ → Program
deleting tests tree = record { lets = []; body = query tests (col 1 0 ∷ []) tree }

module _ (limit : Option ℕ) (mode : Mode) (params : Row) (text : List ℕ) (db after : Database) (tally : Tally) (at : ℕ) (name : List ℕ) (table : Table) (tests : List Term) (test : Row → Bool)
    (passes : (row : Row) → list_all (holds (params ∷ row ∷ [])) tests ≡ test row) where
  pub does_delete : slice_get db.schema.tables at ≡ Some table → is_own_tree db.schema name table.tree ≡ true → refers_to db.schema name ≡ false → nat_le (2 ^ 31) table.tree ≡ false
      → AreKeys (map one_id (db.trees table.tree)) → Does limit mode params db text None (Delete at (deleting tests table.tree)) (Ok (tally, after)) → Takes table.tree test db after
  does_delete there own unreferred low keyed h =
      let done = went (rw there at h) in
      let now = ap (λ (p : Tally × Database). p.1) (same_value (went (went done.2).2).2) in
      let asked = went done.1 in
      let wrote = went asked.2 in
      let trees : done.0.trees ≡ wrote.0 = ap (λ (it : Written). it.trees) (same_value wrote.2) in
      let edit = edit_of db.trees table (ids_of asked.0) Given 0 [] in
      let step = one_step db.schema mode.keys db.trees wrote.0 edit (no_deeds db.schema name table.tree own mode.keys (taken_by db.trees edit) unreferred) wrote.1 in
      let same = rows_answered tests (col 1 0 ∷ []) table.tree params test one_id passes (λ row. refl) low db.trees asked.0 asked.1.answer in
      let leads : after.trees ≡ wrote.0 = ap (λ (d : Database). d.trees) now ∙ trees in
      record {
        schema = ap (λ (d : Database). d.schema) now;
        rows = ap (λ (t : Trees). t table.tree) leads ∙ step.rows ∙ taken_out test (db.trees table.tree) asked.0 keyed same;
        others = subst (λ (t : Trees). AllByRecursion (λ it. it.tree ≢ table.tree → t it.tree ≡ db.trees it.tree) db.schema.tables) (sym leads) step.tables;
      }
