-- Networks in a text of expectations that are written with host bits. (this project's own)
use Rattle.std.specs.Prelude.{◌≡◌, ℕ, ◌==◌, ◌&&◌, ◌++◌, ◌∷◌, nat_le, List, [], Option, Some, None, Result, Ok, Err, codes, if◌then◌else◌}
use Rattle.std.specs.Fmt.{decimal}
use Rattle.std.specs.List.{flat_map}
use Rattle.desk_text.specs.Address.{addr_text}
use Rattle.desk_text.specs.Lines.{LogicalLine, logical_lines}
use Rattle.desk_text.specs.Network.{Block, WrittenNet, block_of, last_of, read_net_text}
use Rattle.desk_text.specs.declared.address.AddrFault.{AddrFault}
use Rattle.desk_tables.specs.declared.hosts.HostRow.{HostRow}
use Rattle.desk_netgroup.specs.declared.group_line.GroupLine.{GroupLine}
use Rattle.desk_expect.specs.Form.{has_form, names}
use Rattle.desk_expect.specs.Meaning.{means}
use Rattle.desk_expect.specs.Reading.{line_values}
use Rattle.desk_expect.specs.declared.rules.Rule.{Rule}

-- the network, unless this address is its first
abbrev pub unless_first : ℕ → Block → Option Block
unless_first addr net = if net.first == addr then None else Some net

-- the network of this prefix that an address is in, if the address has host bits
abbrev pub net_around : ℕ → Option ℕ → Option Block
net_around addr (Some prefix) = unless_first addr (block_of addr prefix)
net_around addr None = None

abbrev pub net_in : Result WrittenNet AddrFault → Option Block
net_in (Ok written) = net_around written.addr written.prefix
net_in (Err fault) = None

-- The network that a name means which is written with host bits: `10.1.0.5/24` means 10.1.0.0/24. None for any other name, a network
-- without host bits too.
abbrev pub net_meant : List ℕ → Option Block
net_meant name = net_in (read_net_text name)

-- a name, and where it stands, as `promises:3: 10.1.0.5/24`
abbrev pub name_text : List ℕ → ℕ → List ℕ → List ℕ
name_text file line name = file ++ 58 ∷ decimal line ++ codes ": " ++ name

-- the network that is meant, as `10.1.0.0/24 is meant`
abbrev pub net_text : Block → List ℕ
net_text net = addr_text net.first ++ 47 ∷ decimal net.prefix ++ codes " is meant\n"

-- the line that tells it, as `promises:3: 10.1.0.5/24 has host bits: 10.1.0.0/24 is meant`
abbrev pub meant_line : List ℕ → ℕ → List ℕ → Block → List ℕ
meant_line file line name net = name_text file line name ++ codes " has host bits: " ++ net_text net

abbrev pub told_net : List ℕ → ℕ → List ℕ → Option Block → List ℕ
told_net file line name (Some net) = meant_line file line name net
told_net file line name None = []

-- what is told of a name on a line of this number
abbrev pub told_name : List ℕ → ℕ → List ℕ → List ℕ
told_name file line name = told_net file line name (net_meant name)

-- what is told of the names of a line of these words: those whom it is about, and those after `but`
abbrev pub told_words : List ℕ → ℕ → List (List ℕ) → List ℕ
told_words file line words = if has_form words then flat_map (told_name file line) (names words) else []

abbrev pub told_values : List ℕ → ℕ → Result (List (List ℕ)) Rule → List ℕ
told_values file line (Ok words) = told_words file line words
told_values file line (Err rule) = []

abbrev pub told_line : List ℕ → LogicalLine → List ℕ
told_line file line = told_values file line.number (line_values line)

-- A line for each network of a text that is written with host bits, in the order of the text.
abbrev pub host_bits_text : List ℕ → List ℕ → List ℕ
host_bits_text file text = flat_map (told_line file) (logical_lines text)

-- A name whose network is told means just the addresses of that network.
abbrev pub ToldNetworksAreMeant : Type 0
ToldNetworksAreMeant =
    (netgroups : List GroupLine) (hosts : List HostRow) (name : List ℕ) (net : Block) (address : ℕ) → net_meant name ≡ Some net
    → means netgroups hosts name address ≡ (nat_le net.first address && nat_le address (last_of net))
