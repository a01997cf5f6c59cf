-- The names of the lines so far were added.
use Rattle.std.proofs.Common.{◌≡◌, ◌++◌, map, take}
use Rattle.std.specs.List.{flat_map}
use Rattle.page_lists.specs.NameIndex.{row_names, written_value}
use Rattle.page_lists.proofs.name_index.push_rows.Given as goal

abbrev pub invariant-loop-row : goal.invariant-loop-row
invariant-loop-row l = map written_value l.written.items ≡ map written_value l.fn.written.items ++ flat_map (row_names l.fs.0) (take l.row-index l.rows)
