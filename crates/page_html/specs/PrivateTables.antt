-- What the private contracts of tables cite.
use Rattle.std.specs.Prelude.{ℕ, List, []}
use Rattle.std.specs.List.{flat_map}
use Rattle.page_html.specs.Tables.{Column, cell_html}

-- an empty cell of a column, and one for each of some columns
abbrev pub empty_cell : Column → List ℕ
empty_cell column = cell_html column []

unfoldable pub empty_cells : List Column → List ℕ
empty_cells columns = flat_map empty_cell columns
