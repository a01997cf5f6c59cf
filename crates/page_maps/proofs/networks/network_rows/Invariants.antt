-- The rows of the networks so far.
use Rattle.std.proofs.Common.{take}
use Rattle.page_maps.specs.NetworkRows.{AreNetworkRows}
use Rattle.page_maps.proofs.networks.network_rows.Given as goal

abbrev pub invariant-loop-network : goal.invariant-loop-network
invariant-loop-network l = AreNetworkRows l.policy (take l.network-index l.networks) l.rows.items
