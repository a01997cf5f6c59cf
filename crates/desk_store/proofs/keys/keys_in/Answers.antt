use Rattle.std.proofs.Common.{◌<◌, [], ◌∷◌, IsTrue, arith, length, subst, sym}
use Rattle.sqlite.specs.Order.{Row, column}
use Rattle.sqlite_trees.specs.View.{is_int}
use Rattle.desk_store.proofs.keys.keys_in.Goals as goal

-- a row whose first column is an integer has one
has_one : (row : Row) → IsTrue (is_int (column row 0)) → 0 < length row
has_one [] whole = absurd (cc)
has_one (v ∷ row) whole = omega arith

pub returns-in-None-clause-none : goal.returns-in-None-clause-none
returns-in-None-clause-none c = λ none whole.
    let row = c.row-item.result in
    let is : IsTrue (is_int (column row 0)) = subst (λ (r : Row). IsTrue (is_int (column r 0))) (sym c.row-item.is) (whole c.loop-row.row-index row (omega arith)) in
    c.in-None.ensures (has_one row is) is
