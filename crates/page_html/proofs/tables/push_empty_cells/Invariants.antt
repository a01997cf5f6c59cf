-- The cells so far were added.
use Rattle.std.proofs.Common.{◌≡◌, ◌++◌, map, take}
use Rattle.std.specs.List.{flat_map}
use Rattle.std.specs.String.{string_bytes}
use Rattle.page_html.specs.PrivateTables.{empty_cell}
use Rattle.page_html.specs.Tables.{column_of}
use Rattle.page_html.proofs.tables.push_empty_cells.Given as goal

abbrev pub invariant-loop-column : goal.invariant-loop-column
invariant-loop-column l = string_bytes l.page ≡ string_bytes l.initial.page ++ flat_map empty_cell (map column_of (take l.column-index l.columns))
