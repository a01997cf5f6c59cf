-- Which lines of a file system are selected for a client. (this project's own)
use Rattle.std.specs.Prelude.{ℕ, ◌+◌, Bool, true, false, List, Option, Some, None, nat_le, filter, if◌then◌else◌}
use Rattle.std.specs.List.{list_all}
use Rattle.desk_text.specs.AddrSet.{is_among}
use Rattle.desk_text.specs.Network.{covers}
use Rattle.desk_exports.specs.declared.entry.Clients.{Clients}
use Rattle.desk_exports.specs.declared.entry.Clients.TheVariants.{Hosts, Net, Net6, World}
use Rattle.desk_policy.specs.declared.row.Row.{Row}

-- the weight of a line that names the client
abbrev pub name_weight : ℕ
name_weight = 34

-- The weight with which a line for these clients matches an address: that of a name where one of its names stands for the address,
-- one more than the prefix where its network covers the address, 0 where it is for everybody. A network of IPv6 matches
-- nobody.
abbrev pub weight_by : Clients → List ℕ → ℕ → Option ℕ
weight_by (Hosts names) addresses address = if is_among address addresses then Some name_weight else None
weight_by (Net net noted) addresses address = if covers net address then Some (net.prefix + 1) else None
weight_by (Net6 value) addresses address = None
weight_by World addresses address = Some 0

-- the weight with which a line matches an address, and None where it does not match
abbrev pub weight_of : Row → ℕ → Option ℕ
weight_of row address = weight_by row.entry.clients row.addrs address

-- no match, or one of at most this weight
abbrev pub is_at_most : Option ℕ → ℕ → Bool
is_at_most None weight = true
is_at_most (Some other) weight = nat_le other weight

-- a match, and no line matches with a greater weight
abbrev pub is_greatest : List Row → ℕ → Option ℕ → Bool
is_greatest rows address None = false
is_greatest rows address (Some weight) = list_all (λ other. is_at_most (weight_of other address) weight) rows

-- the lines that match an address and whose weight no other matching line exceeds
unfoldable pub selected : List Row → ℕ → List Row
selected rows address = filter (λ row. is_greatest rows address (weight_of row address)) rows
