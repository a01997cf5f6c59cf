-- The rows of the netgroups so far.
use Rattle.std.proofs.Common.{◌≡◌, map, take}
use Rattle.page_lists.specs.Netgroups.{row_of, row_value}
use Rattle.page_lists.proofs.netgroups.group_rows.Given as goal

abbrev pub invariant-loop-group : goal.invariant-loop-group
invariant-loop-group l = map row_value l.rows.items ≡ map (row_of l.policy l.tables) (take l.group-index l.group-items)
