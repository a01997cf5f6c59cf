-- What the private contracts of the indexes cite: what stands under each name.
use Rattle.std.specs.Prelude.{◌≡◌, ◌++◌, ◌==◌, Bool, List, [], ◌∷◌, Option, ℕ, Some, None, String, Vec, filter, find, if◌then◌else◌, map, slice_get, slice_index_or}
use Rattle.std.specs.BTreeMap.{BTreeMap, get, get_by_text}
use Rattle.std.specs.List.{flat_map, position}
use Rattle.std.specs.Option.{option_map, option_map_or, option_or}
use Rattle.std.specs.Cmp.Lexicographic.{slice_cmp}
use Rattle.std.specs.List.Sorted.{IsSortedByKey}
use Rattle.std.specs.Ordering.{nat_cmp}
use Rattle.std.specs.Str.{bytes_eq, str_to_ascii_lowercase}
use Rattle.desk_text.specs.declared.address.Addr.{Addr}
use Rattle.desk_tables.specs.Custodians.{digest_of}
use Rattle.desk_tables.specs.Networks.{is_network, network_number}
use Rattle.desk_tables.specs.declared.custodians.Custodian.{Custodian}
use Rattle.desk_tables.specs.declared.groups.Group.{Group}
use Rattle.desk_tables.specs.declared.hosts.HostRow.{HostRow}
use Rattle.desk_tables.specs.declared.index.Listing.{Listing}
use Rattle.desk_tables.specs.declared.networks.NetworkName.{NetworkName}
use Rattle.desk_tables.specs.declared.users.User.{User}

module _ {Y T : Type 0} where
  -- the new index has the value under the name, unless the old one has the name; other names are as before
  abbrev pub AddsFirst : BTreeMap (String Y) T → BTreeMap (String Y) T → List ℕ → T → Type 0
  AddsFirst old new name value = (other : List ℕ) → get_by_text new other ≡ option_or (get_by_text old other) (if bytes_eq other name then Some value else None)

-- the same of an index by numbers
abbrev pub AddsFirstNumber : {T : Type 0} → BTreeMap ℕ T → BTreeMap ℕ T → ℕ → T → Type 0
AddsFirstNumber old new number value = (other : ℕ) → get nat_cmp new other ≡ option_or (get nat_cmp old other) (if number == other then Some value else None)

-- the value, where the name is the key
abbrev pub under : {T : Type 0} → List ℕ → T → List ℕ → List T
under key value name = if bytes_eq key name then value ∷ [] else []

module _ {Y Z T : Type 0} where
  -- the values under a name
  abbrev pub listed : BTreeMap (String Y) (Vec T Z) → List ℕ → List T
  listed index name = option_map_or (λ values. values.items) (get_by_text index name) []

  -- the new index has the value under the name, behind those of the old one
  abbrev pub AddsUnder : BTreeMap (String Y) (Vec T Z) → BTreeMap (String Y) (Vec T Z) → List ℕ → T → Type 0
  AddsUnder old new name value = (key : List ℕ) → listed new key ≡ listed old key ++ under key value name

  -- the same for each of these names, as `spelled` writes them
  abbrev pub AddsUnderEach : (List ℕ → List ℕ) → BTreeMap (String Y) (Vec T Z) → BTreeMap (String Y) (Vec T Z) → List (List ℕ) → T → Type 0
  AddsUnderEach spelled old new names value = (key : List ℕ) → listed new key ≡ listed old key ++ flat_map (λ name. under key value (spelled name)) names

-- the name of a network that is listed
abbrev pub name_of : List NetworkName → Listing → List ℕ
name_of rows listing = option_map_or (λ row. slice_index_or row.names listing.name []) (slice_get rows listing.row) []

-- the listing is of this name
abbrev pub is_named : List NetworkName → List ℕ → Listing → Bool
is_named rows name listing = bytes_eq name (name_of rows listing)

-- the listings are in byte order of their names
abbrev pub AreByName : List NetworkName → List Listing → Type 0
AreByName rows = IsSortedByKey (name_of rows) (slice_cmp nat_cmp)

-- the new listings of each name are the old ones, in their order
abbrev pub KeepsNamed : List NetworkName → List Listing → List Listing → Type 0
KeepsNamed rows old new = (name : List ℕ) → filter (is_named rows name) new ≡ filter (is_named rows name) old

-- the number of the first listing of a name
abbrev pub numbered : List NetworkName → List Listing → List ℕ → Option Addr
numbered rows listings name = option_map (λ listing. listing.addr) (find (is_named rows name) listings)

-- the new listings have the number of the row under each of its names, unless the old ones have the name
abbrev pub AddsNumber : List NetworkName → List Listing → List Listing → NetworkName → Type 0
AddsNumber rows old new row = (name : List ℕ) → numbered rows new name ≡ option_or (numbered rows old name) (if is_network name row then Some row.number else None)

-- the listings have the number of the first row of each name
abbrev pub HasNumbers : List NetworkName → List Listing → Type 0
HasNumbers rows listings = (name : List ℕ) → numbered rows listings name ≡ network_number rows name

-- the addresses of rows whose names in small letters are the key
abbrev pub addresses_under : List ℕ → List HostRow → List Addr
addresses_under key rows = flat_map (λ row. flat_map (λ name. under key row.addr (str_to_ascii_lowercase name)) row.names) rows

-- the name of a host that is listed, and the same in small letters
abbrev pub host_of : List HostRow → Listing → List ℕ
host_of rows listing = option_map_or (λ row. slice_index_or row.names listing.name []) (slice_get rows listing.row) []

abbrev pub host_key : List HostRow → Listing → List ℕ
host_key rows listing = str_to_ascii_lowercase (host_of rows listing)

-- the listing is of the name that is this one in small letters
abbrev pub has_key : List HostRow → List ℕ → Listing → Bool
has_key rows key listing = bytes_eq key (host_key rows listing)

-- the listings are in byte order of their names in small letters
abbrev pub AreByHost : List HostRow → List Listing → Type 0
AreByHost rows = IsSortedByKey (host_key rows) (slice_cmp nat_cmp)

-- the new listings of each name are the old ones, in their order
abbrev pub KeepsHosts : List HostRow → List Listing → List Listing → Type 0
KeepsHosts rows old new = (key : List ℕ) → filter (has_key rows key) new ≡ filter (has_key rows key) old

-- the addresses that are listed under a name in small letters
abbrev pub listed_hosts : List HostRow → List Listing → List ℕ → List Addr
listed_hosts rows listings key = map (λ listing. listing.addr) (filter (has_key rows key) listings)

-- the new listings have the address under each of these names, behind the old ones
abbrev pub AddsHosts : List HostRow → List Listing → List Listing → Addr → List (List ℕ) → Type 0
AddsHosts rows old new addr names = (key : List ℕ) → listed_hosts rows new key ≡ listed_hosts rows old key ++ flat_map (λ name. under key addr (str_to_ascii_lowercase name)) names

-- the listings have the addresses of the rows under each name in small letters
abbrev pub HasAddresses : List HostRow → List Listing → Type 0
HasAddresses rows listings = (key : List ℕ) → listed_hosts rows listings key ≡ addresses_under key rows

-- the gids of rows under each of their members, in their order
abbrev pub gids_under : List ℕ → List Group → List ℕ
gids_under member rows = flat_map (λ row. flat_map (under member row.gid) row.members) rows

module _ {Y Z : Type 0} where
  -- the index has the gids of the groups under each of their members
  abbrev pub HasMembers : List Group → BTreeMap (String Y) (Vec ℕ Z) → Type 0
  HasMembers rows index = (member : List ℕ) → listed index member ≡ gids_under member rows

module _ {Y : Type 0} where
  -- the index has the digest of each custodian's name
  abbrev pub HasDigests : List Custodian → BTreeMap (String Y) (List ℕ) → Type 0
  HasDigests rows index = (name : List ℕ) → get_by_text index name ≡ digest_of rows name

  -- the index has the place of the first user of each name
  abbrev pub HasUserNames : List User → BTreeMap (String Y) ℕ → Type 0
  HasUserNames rows index = (name : List ℕ) → get_by_text index name ≡ position (λ user. bytes_eq name user.name) rows

  -- the index has the place of the first group of each name
  abbrev pub HasGroupNames : List Group → BTreeMap (String Y) ℕ → Type 0
  HasGroupNames rows index = (name : List ℕ) → get_by_text index name ≡ position (λ group. bytes_eq name group.name) rows

-- the index has the place of the first user of each number
abbrev pub HasUserNumbers : List User → BTreeMap ℕ ℕ → Type 0
HasUserNumbers rows index = (uid : ℕ) → get nat_cmp index uid ≡ position (λ user. user.uid == uid) rows
