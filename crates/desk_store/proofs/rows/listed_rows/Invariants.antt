use Rattle.std.proofs.Common.{◌≡◌, map, take}
use Rattle.desk_store.specs.Rows.{listed}
use Rattle.desk_store.proofs.rows.listed_rows.Given as goal

abbrev pub invariant-loop-row : goal.invariant-loop-row
invariant-loop-row l = l.found.items ≡ map listed (take l.row-index l.rows)
