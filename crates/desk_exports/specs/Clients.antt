-- Whom a line is for: names, a network, or everybody. (exports(5), `-network` and `-mask`; networks(5))
use Rattle.std.specs.Prelude.{ℕ, Bool, not, ◌==◌, ◌&&◌, ◌/◌, ◌^◌, List, [], ◌∷◌, Option, Some, None, nat_lt, option_and_then, slice_index, if◌then◌else◌}
use Rattle.std.specs.Char.{is_ascii_digit}
use Rattle.std.specs.List.{list_any, before_first, after_first}
use Rattle.std.specs.Option.{option_map}
use Rattle.std.specs.Result.{result_ok}
use Rattle.desk_text.specs.Address.{number_of, read_short}
use Rattle.desk_text.specs.Bytes.{is_ipv6}
use Rattle.desk_text.specs.Network.{block_of, prefix_of_mask, read_prefix}
use Rattle.desk_tables.specs.Networks.{network_number}
use Rattle.desk_tables.specs.declared.networks.NetworkName.{NetworkName}
use Rattle.desk_exports.specs.Options.{has_option, setting_or, value_of}
use Rattle.desk_exports.specs.declared.entry.Clients.{Clients}
use Rattle.desk_exports.specs.declared.entry.Clients.TheVariants.{Hosts, Net, Net6, World}
use Rattle.desk_exports.specs.declared.options.Keyword.TheVariants as keyword
use Rattle.desk_exports.specs.declared.options.Setting.{Setting}

-- what stands before the first `/` is the network, and what stands behind it its prefix
abbrev pub network_text : List ℕ → List ℕ
network_text value = before_first (λ b. b == 47) value

abbrev pub has_slash : List ℕ → Bool
has_slash value = list_any (λ b. b == 47) value

abbrev pub prefix_text : List ℕ → List ℕ
prefix_text value = after_first (λ b. b == 47) value

-- The number of a network or a mask: a text that begins with a digit writes it in one to four parts, and any other is a
-- name of the networks file.
abbrev pub number_written : List NetworkName → List ℕ → Option ℕ
number_written networks text =
    if is_ascii_digit (slice_index text 0) then result_ok (read_short text)
    else option_map number_of (network_number networks text)

-- the address of a network
abbrev pub network_number_of : List NetworkName → List ℕ → Option ℕ
network_number_of networks value = number_written networks (network_text value)

-- the prefix of a mask, which has to be contiguous
abbrev pub mask_prefix : List NetworkName → List ℕ → Option ℕ
mask_prefix networks mask = option_and_then prefix_of_mask (number_written networks mask)

-- the prefix of the class of an address, by its first part
abbrev pub class_prefix : ℕ → Option ℕ
class_prefix address =
    if nat_lt (address / 2 ^ 24) 128 then Some 8
    else if nat_lt (address / 2 ^ 24) 192 then Some 16
    else if nat_lt (address / 2 ^ 24) 224 then Some 24
    else None

-- the class of the address counts if neither a prefix nor a mask is written
abbrev pub is_classful : List Setting → List ℕ → Bool
is_classful settings value = not (has_slash value) && not (has_option keyword.Mask settings)

-- the prefix of a network with this address: the one that is written, or that of its class
abbrev pub prefix_of : List NetworkName → List Setting → List ℕ → ℕ → Option ℕ
prefix_of networks settings value address =
    if is_classful settings value then class_prefix address
    else if has_slash value then read_prefix (prefix_text value)
    else option_and_then (mask_prefix networks) (value_of keyword.Mask settings)

-- the value, if its class counts
abbrev pub classful_value : List Setting → List ℕ → Option (List ℕ)
classful_value settings value = if is_classful settings value then Some value else None

-- the network of a value that is not of IPv6
abbrev pub network_of : List NetworkName → List Setting → List ℕ → Option Clients
network_of networks settings value =
    option_and_then (λ address. option_map (λ prefix. Net (block_of address prefix) (classful_value settings value)) (prefix_of networks settings value address)) (network_number_of networks value)

-- The clients of a network. Of one of IPv6 neither a prefix nor a mask is looked at.
abbrev pub network_clients : List NetworkName → List Setting → List ℕ → Option Clients
network_clients networks settings value = if is_ipv6 value then Some (Net6 value) else network_of networks settings value

-- Whom a line is for: its names, or its network, or everybody if it writes neither.
abbrev pub clients_of : List NetworkName → List Setting → List (List ℕ) → Option Clients
clients_of networks settings [] = setting_or keyword.Network settings World (network_clients networks settings)
clients_of networks settings (name ∷ names) = Some (Hosts (name ∷ names))
