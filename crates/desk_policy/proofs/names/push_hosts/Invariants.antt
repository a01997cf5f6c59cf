-- The addresses for which the hosts so far stand were added.
use Rattle.std.proofs.Common.{map, take}
use Rattle.std.specs.Prelude.{string_bytes}
use Rattle.std.specs.List.{list_any}
use Rattle.desk_policy.specs.Names.{host_stands_for}
use Rattle.desk_policy.specs.PrivateNames.{Gains}
use Rattle.desk_policy.proofs.names.push_hosts.Given as goal

abbrev pub invariant-loop-name : goal.invariant-loop-name
invariant-loop-name l =
    Gains l.initial.addresses.items l.addresses.items (λ address. list_any (λ name. host_stands_for l.hosts name address) (map string_bytes (take l.name-index l.names)))
