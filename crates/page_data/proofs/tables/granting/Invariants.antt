-- The rows so far that grant.
use Rattle.std.proofs.Common.{◌≡◌, ◌++◌, map}
use Rattle.std.specs.Prelude.{filter}
use Rattle.page_data.specs.Rows.{row_value}
use Rattle.page_data.specs.Tables.{grants_row}
use Rattle.page_data.proofs.tables.granting.Given as goal

abbrev pub invariant-loop-row : goal.invariant-loop-row
invariant-loop-row l = record {
  rows : l.yielded ++ l.row-iterator.rest.items ≡ l.fn.rows.items;
  kept : map row_value l.kept.items ≡ filter grants_row (map row_value l.yielded);
}
