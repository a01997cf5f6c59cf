-- The addresses are those of the listings so far that have the name, and no listing before the first one has it.
use Rattle.std.proofs.Common.{◌≡◌, take}
use Rattle.std.specs.Str.{str_to_ascii_lowercase}
use Rattle.desk_tables.specs.PrivateIndex.{listed_hosts}
use Rattle.desk_tables.proofs.hosts.listed_addresses.Given as goal

abbrev pub invariant-loop-index : goal.invariant-loop-index
invariant-loop-index l = l.addresses.items ≡ listed_hosts l.rows (take l.index l.listings) (str_to_ascii_lowercase l.name)
