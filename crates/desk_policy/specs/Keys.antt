-- The keys of a line: the addresses that its names stand for, or its network, or everybody. Two lines match an address with
-- equal weight exactly if they have one key that matches it. (this project's own)
use Rattle.std.specs.Prelude.{◌≡◌, ℕ, ◌+◌, ◌<◌, ◌≤◌, ◌^◌, ◌==◌, ◌&&◌, All, Bool, true, false, IfSome, IsSome, List, [], Option, Some, None, filter, if◌then◌else◌}
use Rattle.std.specs.List.{list_any}
use Rattle.desk_text.specs.AddrSet.{is_among}
use Rattle.desk_text.specs.Network.{Block, IsBlock, covers}
use Rattle.desk_exports.specs.declared.entry.Clients.{Clients}
use Rattle.desk_exports.specs.declared.entry.Clients.TheVariants as clients
use Rattle.desk_policy.specs.Weights.{name_weight, selected}
use Rattle.desk_policy.specs.declared.row.Row.{Row}

-- an address, a network, or everybody
pub data LineKey : Type 0 where
  Host : ℕ → LineKey
  Network : Block → LineKey
  Everybody : LineKey

-- an address below 2^32, and a network without host bits
abbrev pub IsLineKey : LineKey → Type 0
IsLineKey (Host address) = address < 2 ^ 32
IsLineKey (Network net) = IsBlock net
IsLineKey Everybody = Unit {0}

-- with which weight a key matches an address
abbrev pub key_weight : ℕ → LineKey → Option ℕ
key_weight address (Host host) = if host == address then Some name_weight else None
key_weight address (Network net) = if covers net address then Some (net.prefix + 1) else None
key_weight address Everybody = Some 0

-- the least address that a key matches
abbrev pub least_of : LineKey → ℕ
least_of (Host address) = address
least_of (Network net) = net.first
least_of Everybody = 0

abbrev pub same_block : Block → Block → Bool
same_block net other = net.first == other.first && net.prefix == other.prefix

-- the key is an address that is one of these
abbrev pub is_host_among : List ℕ → LineKey → Bool
is_host_among addresses (Host address) = is_among address addresses
is_host_among addresses (Network net) = false
is_host_among addresses Everybody = false

-- the key is this network
abbrev pub is_network : Block → LineKey → Bool
is_network net (Host address) = false
is_network net (Network other) = same_block net other
is_network net Everybody = false

abbrev pub is_everybody : LineKey → Bool
is_everybody (Host address) = false
is_everybody (Network net) = false
is_everybody Everybody = true

-- A line has the keys of the addresses that its names stand for, or that of its network, or that of everybody.
abbrev pub has_key_by : Clients → List ℕ → LineKey → Bool
has_key_by (clients.Hosts names) addresses key = is_host_among addresses key
has_key_by (clients.Net net noted) addresses key = is_network net key
has_key_by (clients.Net6 value) addresses key = false
has_key_by clients.World addresses key = is_everybody key

abbrev pub has_key : LineKey → Row → Bool
has_key key row = has_key_by row.entry.clients row.addrs key

-- a network of clients, if they have one, has no host bits
abbrev pub HasBlock : Clients → Type 0
HasBlock (clients.Hosts names) = Unit {0}
HasBlock (clients.Net net noted) = IsBlock net
HasBlock (clients.Net6 value) = Unit {0}
HasBlock clients.World = Unit {0}

-- some line has the key
abbrev pub is_used : LineKey → List Row → Bool
is_used key rows = list_any (has_key key) rows

-- a key that matches an address and that some line has, and no such key has a greater weight
pub record IsHeaviestKey (rows : List Row) (address : ℕ) (key : LineKey) : Type 0 where
  pub weight : ℕ
  pub is_key : IsLineKey key
  pub used : is_used key rows ≡ true
  pub matches : key_weight address key ≡ Some weight
  pub most : (other : LineKey) → IsLineKey other → is_used other rows ≡ true → IfSome (key_weight address other) (λ w. w ≤ weight)

-- no key that matches an address has a line
abbrev pub HasNoKey : List Row → ℕ → Type 0
HasNoKey rows address = (key : LineKey) → IsLineKey key → IsSome (key_weight address key) → is_used key rows ≡ false

-- By its keys: for an address the lines are selected that have the heaviest key; if no key that matches has a line, none is.
pub record KeysSelect (rows : List Row) (address : ℕ) : Type 0 where
  pub some : (key : LineKey) → IsHeaviestKey rows address key → selected rows address ≡ filter (has_key key) rows
  pub none : HasNoKey rows address → selected rows address ≡ []

abbrev pub LinesAreSelectedByKeys : Type 0
LinesAreSelectedByKeys = (rows : List Row) (address : ℕ) → address < 2 ^ 32 → All (λ row. HasBlock row.entry.clients) rows → KeysSelect rows address
