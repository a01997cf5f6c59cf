use Rattle.std.proofs.Common.{◌≡◌, All, map, take}
use Rattle.desk_store.specs.Desk.{MayPend}
use Rattle.desk_store.specs.History.{proposed_row}
use Rattle.desk_store.proofs.stored_rows.proposals_in.Given as goal

abbrev pub invariant-loop-row : goal.invariant-loop-row
invariant-loop-row l = (map proposed_row l.proposals.items ≡ take l.row-index l.rows) × All MayPend l.proposals.items
