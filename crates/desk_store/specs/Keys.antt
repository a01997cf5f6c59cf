-- When rows are told to be rowids. (this project's own)
use Rattle.std.specs.Prelude.{◌↔◌, ℤ, All, Bool, IsTrue, List}
use Rattle.std.specs.Ordering.{int_cmp, is_lt}
use Rattle.sqlite.specs.Order.{Row, column}
use Rattle.sqlite_trees.specs.View.{is_int}
use Rattle.desk_store.specs.Tables.{AreKeys}

-- rows are told to be rowids exactly if they are integers, of which none comes twice
abbrev pub AreKeysIf : List Row → Bool → Type 0
AreKeysIf rows told = IsTrue told ↔ AreKeys rows

-- rows are integers
abbrev pub AreWhole : List Row → Type 0
AreWhole rows = All (λ row. IsTrue (is_int (column row 0))) rows

-- a number is below another
abbrev pub is_below : ℤ → ℤ → Bool
is_below key next = is_lt (int_cmp key next)
