-- The names so far are listed.
use Rattle.std.proofs.Common.{take}
use Rattle.desk_tables.specs.PrivateIndex.{AddsHosts}
use Rattle.desk_tables.proofs.hosts.add_hosts.Given as goal

abbrev pub invariant-loop-name : goal.invariant-loop-name
invariant-loop-name l = AddsHosts l.rows l.fn.listings.items l.listings.items l.row.addr (take l.name l.row.names)
