-- The lines in force: an entry, and the addresses for which its written names stand. (exports(5))
use Rattle.std.specs.Prelude.{ℕ, List, []}
use Rattle.desk_tables.specs.declared.hosts.HostRow.{HostRow}
use Rattle.desk_netgroup.specs.declared.group_line.GroupLine.{GroupLine}
use Rattle.desk_exports.specs.declared.entry.Entry.{Entry}
use Rattle.desk_exports.specs.declared.entry.Clients.{Clients}
use Rattle.desk_exports.specs.declared.entry.Clients.TheVariants.{Hosts, Net, Net6, World}
use Rattle.desk_policy.specs.declared.row.Row.{Row}
use Rattle.desk_policy.specs.Names.{addresses_of_names}

-- the written names of the clients of a line
abbrev pub names_of : Clients → List (List ℕ)
names_of (Hosts names) = names
names_of (Net net noted) = []
names_of (Net6 value) = []
names_of World = []

-- a line in force: its entry, and the addresses for which its written names stand
abbrev pub row_of : List GroupLine → List HostRow → Entry → Row
row_of netgroups hosts entry = record { entry = entry; addrs = addresses_of_names netgroups hosts (names_of entry.clients) }
