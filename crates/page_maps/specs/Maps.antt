-- Which maps are needed, so that each address at which the class changes lies on the grid of one of them. (this project's own)
use Rattle.std.specs.Prelude.{◌≡◌, ◌≢◌, ◌⊎◌, ℕ, ◌-◌, ◌%◌, ◌^◌, ◌<◌, ◌≤◌, ◌==◌, ◌&&◌, ◌∷◌, [], ◌++◌, not, Bool, Contains, List, filter, if◌then◌else◌}
use Rattle.std.specs.List.{AllPairs, list_any}
use Rattle.desk_text.specs.Network.{Block, block_of}
use Rattle.desk_who.specs.Runs.{AreRuns, Run}
use Rattle.page_data.specs.declared.class.Class.{Class}
use Rattle.page_maps.specs.Order.{ComesBefore}

-- a seam: an address of another class than the address before it
pub record IsSeam (class_at : ℕ → Class) (seam : ℕ) : Type 0 where
  pub behind : 0 < seam
  pub address : seam < 2 ^ 32
  pub changes : class_at seam ≢ class_at (seam - 1)

-- the map of an address: of the networks of the prefixes 0, 8, 16 and 24 that it is in, the widest on whose grid it lies
abbrev pub map_prefix : ℕ → ℕ
map_prefix address = if address % 2 ^ 24 == 0 then 0 else (if address % 2 ^ 16 == 0 then 8 else (if address % 2 ^ 8 == 0 then 16 else 24))

abbrev pub map_at : ℕ → Block
map_at address = block_of address (map_prefix address)

abbrev pub all_addresses : Block
all_addresses = record { first = 0; prefix = 0 }

-- the map of a seam
pub record IsOfSeam (class_at : ℕ → Class) (network : Block) : Type 0 where
  pub seam : ℕ
  pub is : IsSeam class_at seam
  pub map : map_at seam ≡ network

-- a map is needed: that of all addresses, and that of each seam
abbrev pub IsNeeded : (ℕ → Class) → Block → Type 0
IsNeeded class_at network = (network ≡ all_addresses) ⊎ IsOfSeam class_at network

-- Just the maps that are needed, the wider before the narrower, then by address, each once.
pub record AreMaps (class_at : ℕ → Class) (maps : List Block) : Type 0 where
  pub order : AllPairs ComesBefore maps
  pub all : (network : Block) → IsNeeded class_at network → Contains maps network
  pub only : (network : Block) → Contains maps network → IsNeeded class_at network

-- Given the runs of a function of addresses, the maps that are needed.
abbrev pub AreMapsFrom : List (Run Class) → List Block → Type 0
AreMapsFrom runs maps = (class_at : ℕ → Class) → AreRuns class_at runs → AreMaps class_at maps

-- a network that is wide enough for a map: each cell has an address at least
abbrev pub IsWide : Block → Type 0
IsWide network = network.prefix ≤ 24

-- the maps that each file system has, so that two can be compared: of all addresses, and of the private networks (RFC 1918)
abbrev pub fixed_maps : List Block
fixed_maps =
    all_addresses ∷ record { first = 167772160; prefix = 8 } ∷ record { first = 2886729728; prefix = 12 }
    ∷ record { first = 3232235520; prefix = 16 } ∷ []

abbrev pub same_network : Block → Block → Bool
same_network network other = network.first == other.first && network.prefix == other.prefix

-- a network is one of these
abbrev pub is_listed : List Block → Block → Bool
is_listed networks network = list_any (same_network network) networks

-- the maps of a file system: the fixed ones, and then the others that are needed
abbrev pub maps_with_fixed : List Block → List Block
maps_with_fixed maps = fixed_maps ++ filter (λ network. not (is_listed fixed_maps network)) maps
