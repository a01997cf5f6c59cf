-- The rows so far were counted.
use Rattle.std.proofs.Common.{◌≡◌, ◌≤◌, map, take}
use Rattle.page_places.specs.Rows.{row_value}
use Rattle.page_places.specs.Tables.{granting}
use Rattle.page_places.proofs.tables.granting.Given as goal

abbrev pub invariant-loop-row : goal.invariant-loop-row
invariant-loop-row l = record {
  counted : l.count ≡ granting (map row_value (take l.row-index l.rows));
  few : l.count ≤ l.row-index;
}
