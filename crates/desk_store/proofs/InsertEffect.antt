-- What one INSERT into a table does, whatever other tables the schema has.
use Rattle.std.proofs.Common.{◌≡◌, ◌≢◌, if◌then◌else◌, ◌⊎◌, inl, inr, ℕ, ℤ, pos, List, [], ◌∷◌, length, slice_get, Bool, true, false, cond, not, ◌&&◌, ◌||◌, ◌==◌, Some, None, Option, Ok, Err, Result, refl, sym, ap, subst, ◌∙◌}
use Rattle.std.specs.Prelude.{IsPermutation, MatchBool, ◌/◌}
use Rattle.std.specs.List.{AllByRecursion, flat_map, filter_map}
use Rattle.std.specs.Ordering.{is_eq, match_ordering}
use Rattle.std.specs.declared.cmp.Ordering.{Ordering}
use Rattle.std.specs.declared.cmp.Ordering.TheVariants.{Less, Equal, Greater}
use Rattle.std.proofs.lemmas.List.Sorted.{IsPermutation-refl, IsPermutation-cons, IsPermutation-trans, IsPermutation-middle}
use Rattle.sqlite.specs.declared.types.Value.{Value}
use Rattle.sqlite.specs.declared.types.Value.TheVariants.{Null, Int}
use Rattle.sqlite.specs.Order.{Row, value_cmp}
use Rattle.sqlite.specs.Tree.{Trees, rowid, put_row}
use Rattle.sqlite.specs.Term.{Term}
use Rattle.sqlite.specs.Ops.{unary}
use Rattle.sqlite.specs.Kind.TheVariants.{Integer}
use Rattle.sqlite.specs.Cast.{cast}
use Rattle.sqlite_rules.specs.Cast.{cast_row}
use Rattle.sqlite.specs.Schema.{Schema}
use Rattle.sqlite.specs.Table.{Table}
use Rattle.sqlite_schema.specs.declared.schema.Keys.{Keys}
use Rattle.sqlite_schema.specs.declared.schema.Reference.{Reference}
use Rattle.sqlite_rules.specs.Action.{Writes, works, work_for, work_by, Work}
use Rattle.sqlite_rules.specs.declared.action.Deed.{Deed}
use Rattle.sqlite_schema.specs.Rules.{ParentKey}
use Rattle.sqlite_rules.specs.Edit.{is_taken, are_fresh, edit_of, next_rowid, put_all, with_rowid}
use Rattle.sqlite.specs.Rowids.{Rowids}
use Rattle.sqlite.specs.Rowids.TheVariants.{Chosen}
use Rattle.sqlite.specs.Rows.{Written, count_of, rowids_for, stamped}
use Rattle.sqlite.proofs.Callers.{one_step}
use Rattle.sqlite.specs.Command.TheVariants.{Insert}
use Rattle.sqlite.specs.Source.TheVariants.{Values}
use Rattle.sqlite.specs.Effect.{Database, value_rows}
use Rattle.sqlite.specs.Does.{Tally, Does}
use Rattle.sqlite.specs.declared.run.Mode.{Mode}
use Rattle.desk_store.specs.Tables.{cells}

either : (b : Bool) (x : Value) → cond b x x ≡ x
either true x = refl
either false x = refl

pub cast_null : cast Integer Null ≡ Null
unfolding unary
cast_null = either _ Null

pub cast_int : (n : ℕ) → cast Integer (Int (pos n)) ≡ Int (pos n)
unfolding unary
cast_int n = either _ (Int (pos n))

off : (b : Bool) (x : Option Work) → (if b && false then x else None) ≡ None
off true x = refl
off false x = refl

idle : (depth tree : ℕ) (child : Table) (ref : Reference) (deed : Option Deed) (key : Option ParentKey) → work_by depth tree [] child ref deed key ≡ None
idle depth tree child ref None key = refl
idle depth tree child ref (Some deed) None = refl
idle depth tree child ref (Some deed) (Some key) = off (key.0 == tree) _

none_of : (f : Reference → Option Work) (refs : List Reference) → ((ref : Reference) → f ref ≡ None) → filter_map f refs ≡ []
none_of f [] none = refl
none_of f (ref ∷ refs) none = rw (none ref) (none_of f refs none)

nothing_from : (f : Table → List Work) (tables : List Table) → ((t : Table) → f t ≡ []) → flat_map f tables ≡ []
nothing_from f [] none = refl
nothing_from f (t ∷ tables) none = rw (none t) (nothing_from f tables none)

-- no action follows, since no row was taken out
pub no_works : (schema : Schema) (keys : Keys) (depth tree : ℕ) (news : List Row) → works schema keys depth tree [] news ≡ []
no_works schema keys depth tree news =
    nothing_from (λ child. filter_map (work_for schema keys depth tree [] news child) child.references) schema.tables
    (λ child. none_of _ child.references (λ ref. idle depth tree child ref _ _))

either_taken : (o : Ordering) (more : Bool) → (is_eq o || more) ≡ false → (o ≢ Equal) × (more ≡ false)
either_taken Less more free = (λ e. absurd (cc), free)
either_taken Greater more free = (λ e. absurd (cc), free)
either_taken Equal more free = absurd (let e = free in cc)

-- where no row has the rowid, the row is put among the others
put_at : (new r : Row) (rows rest : List Row) (o : Ordering) → o ≢ Equal → IsPermutation (new ∷ rows) rest
    → IsPermutation (new ∷ r ∷ rows) (match_ordering o (r ∷ rest) (new ∷ rows) (new ∷ r ∷ rows))
put_at new r rows rest Less apart more = IsPermutation-trans _ (r ∷ new ∷ rows) _ (IsPermutation-middle (new ∷ []) r rows) (IsPermutation-cons r (new ∷ rows) rest more)
put_at new r rows rest Equal apart more = absurd (apart refl)
put_at new r rows rest Greater apart more = IsPermutation-refl _

pub put_permutes : (new : Row) (rows : List Row) → is_taken rows new ≡ false → IsPermutation (new ∷ rows) (put_row new rows)
put_permutes new [] free = IsPermutation-refl (new ∷ [])
put_permutes new (r ∷ rows) free =
    let both = either_taken (value_cmp (rowid r) (rowid new)) (is_taken rows new) free in
    put_at new r rows (put_row new rows) (value_cmp (rowid r) (rowid new)) both.0 (put_permutes new rows both.1)

pub went : {B E R : Type 0} {b : B} {Stops : E → Type 0} → ((stop : E) × Stops stop × (Ok b ≡ Err stop)) ⊎ R → R
went (inl stopped) = absurd (let e = stopped.2 in cc)
went (inr on) = on

pub same_value : {B E : Type 0} {a b : B} → ◌≡◌ {A = Result B E} (Ok a) (Ok b) → a ≡ b
same_value e = cc

free_of : (b more : Bool) → (not b && more) ≡ true → b ≡ false
free_of true more h = absurd (let e = h in cc)
free_of false more h = refl

not_counted : (b x : Bool) (A B : Type 0) → b ≡ false → MatchBool (if b then x else false) A B → B
not_counted true x A B none h = absurd (let e = none in cc)
not_counted false x A B none h = h

-- a row, with the rowid above those of the table
abbrev pub numbered_row : List Row → Row → Row
numbered_row rows row = Int (next_rowid rows) ∷ row

-- A row is put into a table, with a rowid that no row had, and the other tables have what they had.
pub record Puts (table : Table) (row : Row) (db after : Database) : Type 0 where
  pub schema : after.schema ≡ db.schema
  pub columns : cells table (numbered_row (db.trees table.tree) row) ≡ row
  pub free : is_taken (db.trees table.tree) (numbered_row (db.trees table.tree) row) ≡ false
  pub rows : after.trees table.tree ≡ put_row (numbered_row (db.trees table.tree) row) (db.trees table.tree)
  pub others : AllByRecursion (λ t. t.tree ≢ table.tree → after.trees t.tree ≡ db.trees t.tree) db.schema.tables

-- of a table without AUTOINCREMENT, the terms of whose one row give this row, once its values are cast
module _ (limit : Option ℕ) (mode : Mode) (params : Row) (text : List ℕ) (db after : Database) (tally : Tally) (at : ℕ) (table : Table) (terms : List Term) (width : ℕ) (source row : Row)
    (uncounted : table.is_counted ≡ false) (sourced : value_rows (stamped table params) width (length terms / width) terms ≡ source ∷ []) (laid : cast_row table source ≡ Null ∷ row)
    (columns : (id : Value) → cells table (id ∷ row) ≡ row) where
  chosen : (last : ℤ) → rowids_for table last ≡ Chosen
  chosen last = rw (uncounted) refl

  pub does_insert : slice_get db.schema.tables at ≡ Some table → Does limit mode params db text None (Insert at (Values terms width)) (Ok (tally, after)) → Puts table row db after
  does_insert there h =
      let done = went (rw there at h) in
      let now = ap (λ (p : Tally × Database). p.1) (same_value (went (went done.2).2).2) in
      let from = went done.1 in
      let counter = went from.2 in
      let written = went counter.2 in
      let counted = went written.2 in
      let trees : done.0.trees ≡ written.0 = ap (λ (it : Written). it.trees) (same_value counted.2) ∙ same_value (not_counted table.is_counted _ _ _ uncounted counted.1) in
      let edit = edit_of db.trees table [] Chosen 0 from.0 in
      let wrote : Writes db.schema mode.keys db.trees edit (Ok written.0) = subst (λ (r : Rowids). Writes db.schema mode.keys db.trees (edit_of db.trees table [] r 0 from.0) (Ok written.0)) (chosen (count_of counter.0)) written.1 in
      let step = one_step db.schema mode.keys db.trees written.0 edit (no_works db.schema mode.keys 0 table.tree edit.news) wrote in
      let new = numbered_row (db.trees table.tree) row in
      let news : edit.news ≡ new ∷ [] = ap (λ all. (edit_of db.trees table [] Chosen 0 all).news) (from.1.1 ∙ sourced) ∙ ap (λ r. with_rowid Chosen (db.trees table.tree) r ∷ []) laid in
      let leads : after.trees ≡ written.0 = ap (λ (d : Database). d.trees) now ∙ trees in
      record {
        schema = ap (λ (d : Database). d.schema) now;
        columns = columns (Int (next_rowid (db.trees table.tree)));
        free = free_of _ _ (subst (λ all. are_fresh (db.trees table.tree) all ≡ true) news step.fresh);
        rows = ap (λ (t : Trees). t table.tree) leads ∙ step.rows ∙ ap (put_all (db.trees table.tree)) news;
        others = subst (λ (t : Trees). AllByRecursion (λ it. it.tree ≢ table.tree → t it.tree ≡ db.trees it.tree) db.schema.tables) (sym leads) step.tables;
      }
