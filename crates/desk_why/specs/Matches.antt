-- The lines that match a client, heaviest first. (this project's own)
use Rattle.std.specs.Prelude.{ℕ, zero, suc, ◌+◌, ◌==◌, ◌++◌, Bool, true, false, List, [], ◌∷◌, Option, Some, None, filter, length}
use Rattle.desk_exports.specs.declared.entry.Clients.{Clients}
use Rattle.desk_exports.specs.declared.entry.Clients.TheVariants.{Hosts, Net, Net6, World}
use Rattle.desk_policy.specs.Weights.{name_weight, weight_of}
use Rattle.desk_policy.specs.declared.row.Row.{Row}

-- a match, with this weight
abbrev pub is_weight : ℕ → Option ℕ → Bool
is_weight weight None = false
is_weight weight (Some other) = other == weight

-- the line matches the address with this weight
abbrev pub weighs : ℕ → ℕ → Row → Bool
weighs address weight row = is_weight weight (weight_of row address)

-- The lines that match an address with a lesser weight than this one: heaviest first, and those of one weight in the order of
-- the lines.
unfoldable pub lighter : List Row → ℕ → ℕ → List Row
lighter rows address zero = []
lighter rows address (suc weight) = filter (weighs address weight) rows ++ lighter rows address weight

-- the lines that match an address, heaviest first; none is heavier than one that names the client
abbrev pub matching : List Row → ℕ → List Row
matching rows address = lighter rows address (name_weight + 1)

-- two matches of one weight
abbrev pub is_as_heavy : Option ℕ → Option ℕ → Bool
is_as_heavy None other = false
is_as_heavy (Some weight) other = is_weight weight other

-- the weight of the first of these lines
abbrev pub first_weight : List Row → ℕ → Option ℕ
first_weight [] address = None
first_weight (first ∷ others) address = weight_of first address

-- none of the names of these clients stands for an address, or their network is of IPv6
abbrev pub has_no_client : Clients → List ℕ → Bool
has_no_client (Hosts names) addresses = length addresses == 0
has_no_client (Net net noted) addresses = false
has_no_client (Net6 value) addresses = true
has_no_client World addresses = false

-- a line that matches no address
unfoldable pub is_for_nobody : Row → Bool
is_for_nobody row = has_no_client row.entry.clients row.addrs
