use Rattle.std.proofs.Common.{◌≡◌, map, take}
use Rattle.desk_store.specs.Rows.{signed}
use Rattle.desk_store.proofs.signatures.signed_rows.Given as goal

abbrev pub invariant-loop-row : goal.invariant-loop-row
invariant-loop-row l = l.found.items ≡ map (signed l.approved) (take l.row-index l.rows)
