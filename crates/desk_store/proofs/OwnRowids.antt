-- A table whose rows have rowids of their own keeps that when rows are taken out, and when one is put in where its rowid was free.
use Rattle.std.proofs.Common.{◌≡◌, ◌≢◌, sym, refl, suc, Bool, true, false, cond, ◌||◌, List, [], ◌∷◌, filter, map, IsTrue, arith}
use Rattle.std.specs.Prelude.{All}
use Rattle.std.specs.List.{AllByRecursion, AllPairs}
use Rattle.std.specs.Ordering.{is_eq, match_ordering}
use Rattle.std.specs.declared.cmp.Ordering.{Ordering}
use Rattle.std.specs.declared.cmp.Ordering.TheVariants.{Less, Equal, Greater}
use Rattle.std.proofs.lemmas.Cmp.{tied_itself}
use Rattle.std.proofs.lemmas.List.Elements.{All-from_recursion}
use Rattle.std.proofs.lemmas.List.Kept.{AllPairs-cons}
use Rattle.sqlite_value.proofs.OrderLemmas.{value_cmp_total}
use Rattle.sqlite.specs.declared.types.Value.{Value}
use Rattle.sqlite.specs.Order.{Row, column, value_cmp}
use Rattle.sqlite.specs.Tree.{rowid, put_row}
use Rattle.sqlite_trees.specs.View.{is_int}
use Rattle.sqlite_rules.specs.Edit.{is_taken}
use Rattle.desk_store.specs.Tables.{AreKeys}

abbrev pub one_id : Row → Row
one_id row = rowid row ∷ []

abbrev IsWhole : Row → Type 0
IsWhole row = IsTrue (is_int (rowid row))

-- no rowid comes twice, by recursion
abbrev Apart : List Row → Type 0
Apart [] = Unit {0}
Apart (row ∷ rows) = AllByRecursion (λ later. rowid row ≢ rowid later) rows × Apart rows

-- what each rowid is, by recursion
pub each_id : (P : Value → Type 0) (rows : List Row) → All (λ row. P (column row 0)) (map one_id rows) → AllByRecursion (λ row. P (rowid row)) rows
each_id P [] h = tt
each_id P (row ∷ rows) h = (h 0 [] (omega arith), each_id P rows (λ k d within. h (suc k) d (omega arith)))

ids_each : (P : Value → Type 0) (rows : List Row) → AllByRecursion (λ row. P (rowid row)) rows → AllByRecursion (λ row. P (column row 0)) (map one_id rows)
ids_each P [] h = tt
ids_each P (row ∷ rows) h = (h.0, ids_each P rows h.1)

apart_by_recursion : (rows : List Row) → AllPairs (λ row later. column row 0 ≢ column later 0) (map one_id rows) → Apart rows
apart_by_recursion [] h = tt
apart_by_recursion (row ∷ rows) h =
    (each_id (λ v. rowid row ≢ v) rows (λ k d within. h 0 (suc k) d (omega arith) (omega arith)), apart_by_recursion rows (λ i j d low within. h (suc i) (suc j) d (omega arith) (omega arith)))

apart_from_recursion : (rows : List Row) → Apart rows → AllPairs (λ row later. column row 0 ≢ column later 0) (map one_id rows)
apart_from_recursion [] h = λ i j d low within. absurd (omega arith)
apart_from_recursion (row ∷ rows) h =
    AllPairs-cons (λ row later. column row 0 ≢ column later 0) (one_id row) (map one_id rows)
    (All-from_recursion (λ later. rowid row ≢ column later 0) (map one_id rows) (ids_each (λ v. rowid row ≢ v) rows h.0)) (apart_from_recursion rows h.1)

keys_of : (rows : List Row) → AllByRecursion IsWhole rows → Apart rows → AreKeys (map one_id rows)
keys_of rows whole apart =
    record { whole = All-from_recursion (λ row. IsTrue (is_int (column row 0))) (map one_id rows) (ids_each (λ v. IsTrue (is_int v)) rows whole); apart = apart_from_recursion rows apart }

-- ---- rows are taken out

some_kept : (P : Row → Type 0) (p : Row → Bool) (rows : List Row) → AllByRecursion P rows → AllByRecursion P (filter p rows)
some_kept P p [] h = tt
some_kept P p (row ∷ rows) h = elim (p row) as (λ b. AllByRecursion P (cond b (row ∷ filter p rows) (filter p rows))) [ true ↦ (h.0, some_kept P p rows h.1) | false ↦ some_kept P p rows h.1 ]

apart_kept : (p : Row → Bool) (rows : List Row) → Apart rows → Apart (filter p rows)
apart_kept p [] h = tt
apart_kept p (row ∷ rows) h = elim (p row) as (λ b. Apart (cond b (row ∷ filter p rows) (filter p rows))) [
  | true ↦ (some_kept (λ later. rowid row ≢ rowid later) p rows h.0, apart_kept p rows h.1)
  | false ↦ apart_kept p rows h.1
]

pub keys_kept : (p : Row → Bool) (rows : List Row) → AreKeys (map one_id rows) → AreKeys (map one_id (filter p rows))
keys_kept p rows keys = keys_of (filter p rows) (some_kept IsWhole p rows (each_id (λ v. IsTrue (is_int v)) rows keys.whole)) (apart_kept p rows (apart_by_recursion rows keys.apart))

-- ---- a row is put in

put_too : (P : Row → Type 0) (new : Row) (rows : List Row) → P new → AllByRecursion P rows → AllByRecursion P (put_row new rows)
put_too P new [] own h = (own, tt)
put_too P new (row ∷ rows) own h = elim (value_cmp (rowid row) (rowid new)) as (λ o. AllByRecursion P (match_ordering o (row ∷ put_row new rows) (new ∷ rows) (new ∷ row ∷ rows))) [
  | Less ↦ (h.0, put_too P new rows own h.1)
  | Equal ↦ (own, h.1)
  | Greater ↦ (own, h)
]

pub neither : (a b : Bool) → (a || b) ≡ false → (a ≡ false) × (b ≡ false)
neither true b h = absurd (cc)
neither false b h = (refl, h)

-- where no row has the rowid
not_taken : (new : Row) (rows : List Row) → is_taken rows new ≡ false → AllByRecursion (λ row. is_eq (value_cmp (rowid row) (rowid new)) ≡ false) rows
not_taken new [] free = tt
not_taken new (row ∷ rows) free = let parts = neither (is_eq (value_cmp (rowid row) (rowid new))) (is_taken rows new) free in (parts.0, not_taken new rows parts.1)

differs : (new row : Row) → is_eq (value_cmp (rowid row) (rowid new)) ≡ false → rowid row ≢ rowid new
differs new row other same = absurd (let e = rw (same, tied_itself value_cmp_total (rowid new)) at other in cc)

all_differ : (new : Row) (rows : List Row) → AllByRecursion (λ row. is_eq (value_cmp (rowid row) (rowid new)) ≡ false) rows → AllByRecursion (λ row. rowid new ≢ rowid row) rows
all_differ new [] h = tt
all_differ new (row ∷ rows) h = (λ same. differs new row h.0 (sym same), all_differ new rows h.1)

one_apart : (new row : Row) (rows put : List Row) (o : Ordering) → is_eq o ≡ false → AllByRecursion (λ later. rowid row ≢ rowid later) put → Apart put → Apart (new ∷ row ∷ rows)
    → Apart (match_ordering o (row ∷ put) (new ∷ rows) (new ∷ row ∷ rows))
one_apart new row rows put Less is above more all = (above, more)
one_apart new row rows put Equal is above more all = absurd (cc)
one_apart new row rows put Greater is above more all = all

apart_put : (new : Row) (rows : List Row) → AllByRecursion (λ row. is_eq (value_cmp (rowid row) (rowid new)) ≡ false) rows → Apart rows → Apart (put_row new rows)
apart_put new [] free h = (tt, tt)
apart_put new (row ∷ rows) free h =
    one_apart new row rows (put_row new rows) (value_cmp (rowid row) (rowid new)) free.0 (put_too (λ later. rowid row ≢ rowid later) new rows (differs new row free.0) h.0) (apart_put new rows free.1 h.1)
    ((λ same. differs new row free.0 (sym same), all_differ new rows free.1), h)

pub keys_put : (new : Row) (rows : List Row) → IsTrue (is_int (rowid new)) → is_taken rows new ≡ false → AreKeys (map one_id rows) → AreKeys (map one_id (put_row new rows))
keys_put new rows own free keys =
    keys_of (put_row new rows) (put_too IsWhole new rows own (each_id (λ v. IsTrue (is_int v)) rows keys.whole)) (apart_put new rows (not_taken new rows free) (apart_by_recursion rows keys.apart))
