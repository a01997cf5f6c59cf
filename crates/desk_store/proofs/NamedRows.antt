-- The rows that a query with WHERE answers: of those that pass what it shows, in some order.
use Rattle.std.proofs.Common.{nat_le, ◌^◌, ◌≡◌, pos, refl, ℕ, Bool, true, false, cond, List, [], ◌∷◌, ◌&&◌, filter, map, ap, subst, ◌∙◌}
use Rattle.std.specs.List.{list_all}
use Rattle.std.specs.Prelude.{IsPermutation}
use Rattle.sqlite_sql.specs.declared.ops.BinaryOp.TheVariants.{Compare}
use Rattle.sqlite_sql.specs.declared.ops.CompareOp.TheVariants.{Eq}
use Rattle.sqlite.specs.Collation.TheVariants.{Binary}
use Rattle.sqlite.specs.Ops.{binary, from_truth, is_true}
use Rattle.std.proofs.Common.{Some}
use Rattle.sqlite.specs.Order.{Row, column, value_cmp}
use Rattle.sqlite.specs.Tree.{Trees}
use Rattle.sqlite.specs.Program.{IsProgramAnswer}
use Rattle.sqlite.specs.Table.{Table}
use Rattle.sqlite.specs.Term.{Term, col, eval_all, holds, op2}
use Rattle.sqlite.specs.declared.types.Value.{Value}
use Rattle.sqlite.specs.declared.types.Value.TheVariants.{Null, Int, Real, Text as Words, Blob as Bytes}
use Rattle.desk_store.proofs.RowsAnswered.{query, rows_answered}
use Rattle.desk_store.specs.Looks.{approver_of, are_equal, author_profile_and_text, is_at, is_of, number_and_approver, number_author_and_profile}
use Rattle.desk_schema.specs.Tables.{approval_table, file_rev_table}
use Rattle.desk_store.specs.Tables.{cells}

module _ (tests project : List Term) (table : Table) (params : Row) (test : Row → Bool) (shown : Row → Row)
    (passes : (row : Row) → list_all (holds (params ∷ row ∷ [])) tests ≡ test (cells table row)) (shows : (row : Row) → eval_all project (params ∷ row ∷ []) ≡ shown (cells table row)) where
  one_kept : (b : Bool) (row : Row) (kept others : List Row) → map (λ r. shown (cells table r)) kept ≡ map shown others
      → map (λ r. shown (cells table r)) (cond b (row ∷ kept) kept) ≡ map shown (cond b (cells table row ∷ others) others)
  one_kept true row kept others same = ap (λ more. shown (cells table row) ∷ more) same
  one_kept false row kept others same = same

  by_cells : (rows : List Row) → map (λ row. shown (cells table row)) (filter (λ row. test (cells table row)) rows) ≡ map shown (filter test (map (cells table) rows))
  by_cells [] = refl
  by_cells (row ∷ rows) = one_kept (test (cells table row)) row (filter (λ r. test (cells table r)) rows) (filter test (map (cells table) rows)) (by_cells rows)

  pub answered : (low : nat_le (2 ^ 31) table.tree ≡ false) (db : Trees) (rows : List Row) → IsProgramAnswer [] (query tests project table.tree) db params rows
      → IsPermutation (map shown (filter test (map (cells table) (db table.tree)))) rows
  answered low db rows h =
      subst (λ all. IsPermutation all rows) (by_cells (db table.tree)) (rows_answered tests project table.tree params (λ row. test (cells table row)) (λ row. shown (cells table row)) passes shows low db rows h)

told : (b : Bool) → is_true (from_truth (Some b)) ≡ b
told true = refl
told false = refl

by_text : (a : Value) (t : List ℕ) → is_true (binary (Compare Eq Binary) a (Words t)) ≡ are_equal a (Words t)
unfolding binary value_cmp
by_text Null t = refl
by_text (Int n) t = refl
by_text (Real x) t = refl
by_text (Words s) t = told (are_equal (Words s) (Words t))
by_text (Bytes b) t = refl

by_int : (a : Value) (n : ℕ) → is_true (binary (Compare Eq Binary) a (Int (pos n))) ≡ are_equal a (Int (pos n))
unfolding binary value_cmp
by_int Null n = refl
by_int (Int m) n = told (are_equal (Int m) (Int (pos n)))
by_int (Real x) n = told (are_equal (Real x) (Int (pos n)))
by_int (Words t) n = refl
by_int (Bytes b) n = refl

and_true : (b : Bool) → (b && true) ≡ b
and_true true = refl
and_true false = refl

abbrev pub file_test : Term
file_test = op2 (Compare Eq Binary) (col 1 1) (col 0 0)

abbrev pub rev_test : Term
rev_test = op2 (Compare Eq Binary) (col 1 2) (col 0 1)

abbrev pub number_columns : List Term
number_columns = col 1 2 ∷ col 1 3 ∷ col 1 4 ∷ []

abbrev pub text_columns : List Term
text_columns = col 1 3 ∷ col 1 4 ∷ col 1 5 ∷ []

abbrev pub approver_columns : List Term
approver_columns = col 1 3 ∷ []

abbrev pub approvers_columns : List Term
approvers_columns = col 1 2 ∷ col 1 3 ∷ []

-- the tests of a file, and of its revision with a number, pass where these rows pass
pub file_passes : (file : List ℕ) (row : Row) → list_all (holds ((Words file ∷ []) ∷ row ∷ [])) (file_test ∷ []) ≡ are_equal (column row 1) (Words file)
file_passes file row = and_true _ ∙ by_text (column row 1) file

both_pass : (file : List ℕ) (rev : ℕ) (row : Row) → list_all (holds ((Words file ∷ Int (pos rev) ∷ []) ∷ row ∷ [])) (file_test ∷ rev_test ∷ []) ≡ (are_equal (column row 1) (Words file) && are_equal (column row 2) (Int (pos rev)))
both_pass file rev row =
    ap (λ b. b && (holds ((Words file ∷ Int (pos rev) ∷ []) ∷ row ∷ []) rev_test && true)) (by_text (column row 1) file)
    ∙ ap (λ b. are_equal (column row 1) (Words file) && b) (and_true _ ∙ by_int (column row 2) rev)

pub numbers_answered : (file : List ℕ) (tree : ℕ) (low : nat_le (2 ^ 31) tree ≡ false) (db : Trees) (rows : List Row) → IsProgramAnswer [] (query (file_test ∷ []) number_columns tree) db (Words file ∷ []) rows
    → IsPermutation (map number_author_and_profile (filter (is_of file) (map (cells (file_rev_table tree)) (db tree)))) rows
numbers_answered file tree =
    answered (file_test ∷ []) number_columns (file_rev_table tree) (Words file ∷ []) (is_of file) number_author_and_profile (file_passes file) (λ row. refl)

pub revision_answered : (file : List ℕ) (rev tree : ℕ) (low : nat_le (2 ^ 31) tree ≡ false) (db : Trees) (rows : List Row)
    → IsProgramAnswer [] (query (file_test ∷ rev_test ∷ []) text_columns tree) db (Words file ∷ Int (pos rev) ∷ []) rows
    → IsPermutation (map author_profile_and_text (filter (is_at file rev) (map (cells (file_rev_table tree)) (db tree)))) rows
revision_answered file rev tree =
    answered (file_test ∷ rev_test ∷ []) text_columns (file_rev_table tree) (Words file ∷ Int (pos rev) ∷ []) (is_at file rev) author_profile_and_text (both_pass file rev) (λ row. refl)

pub approver_answered : (file : List ℕ) (rev tree : ℕ) (low : nat_le (2 ^ 31) tree ≡ false) (db : Trees) (rows : List Row)
    → IsProgramAnswer [] (query (file_test ∷ rev_test ∷ []) approver_columns tree) db (Words file ∷ Int (pos rev) ∷ []) rows
    → IsPermutation (map approver_of (filter (is_at file rev) (map (cells (approval_table tree)) (db tree)))) rows
approver_answered file rev tree =
    answered (file_test ∷ rev_test ∷ []) approver_columns (approval_table tree) (Words file ∷ Int (pos rev) ∷ []) (is_at file rev) approver_of (both_pass file rev) (λ row. refl)

pub approvers_answered : (file : List ℕ) (tree : ℕ) (low : nat_le (2 ^ 31) tree ≡ false) (db : Trees) (rows : List Row) → IsProgramAnswer [] (query (file_test ∷ []) approvers_columns tree) db (Words file ∷ []) rows
    → IsPermutation (map number_and_approver (filter (is_of file) (map (cells (approval_table tree)) (db tree)))) rows
approvers_answered file tree =
    answered (file_test ∷ []) approvers_columns (approval_table tree) (Words file ∷ []) (is_of file) number_and_approver (file_passes file) (λ row. refl)
