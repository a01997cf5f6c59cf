-- The first line that has one of the addresses so far.
use Rattle.std.proofs.Common.{map, take}
use Rattle.desk_text.specs.Address.{number_of}
use Rattle.desk_policy.specs.Keys.{is_host_among}
use Rattle.desk_policy.specs.Policy.{rows_of}
use Rattle.desk_server.specs.PrivateRepeatedClients.{IsSharing}
use Rattle.desk_server.proofs.repeated_client.sharing_hosts.Given as goal

abbrev pub invariant-loop-address : goal.invariant-loop-address
invariant-loop-address l = IsSharing (rows_of l.index l.fs.0) l.line (is_host_among (take l.address-index (map number_of l.addresses))) l.found
