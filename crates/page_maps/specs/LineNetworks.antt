-- The networks that lines write. (this project's own, over exports(5))
use Rattle.std.specs.Prelude.{◌==◌, ◌∷◌, [], List, if◌then◌else◌}
use Rattle.std.specs.List.{flat_map}
use Rattle.desk_text.specs.Network.{Block}
use Rattle.desk_exports.specs.declared.entry.Clients.{Clients}
use Rattle.desk_exports.specs.declared.entry.Clients.TheVariants.{Hosts, Net, Net6, World}
use Rattle.desk_policy.specs.declared.row.Row.{Row}

-- the network that a line is for, if it is for one that does not have all addresses
abbrev pub written_network : Clients → List Block
written_network (Hosts names) = []
written_network (Net network noted) = if network.prefix == 0 then [] else network ∷ []
written_network (Net6 value) = []
written_network World = []

-- those of lines, in their order
abbrev pub written_networks : List Row → List Block
written_networks rows = flat_map (λ row. written_network row.entry.clients) rows
