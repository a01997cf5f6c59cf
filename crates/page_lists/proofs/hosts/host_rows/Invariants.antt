-- The rows of the names so far.
use Rattle.std.proofs.Common.{◌≡◌, map, take}
use Rattle.page_lists.specs.Hosts.{row_of, row_value}
use Rattle.page_lists.proofs.hosts.host_rows.Given as goal

abbrev pub invariant-loop-name : goal.invariant-loop-name
invariant-loop-name l = map row_value l.rows.items ≡ map (row_of l.policy l.tables) (map (λ name. name.now) (take l.name-index l.names))
