-- The shares of which a file system is told. (this project's own)
use Rattle.std.specs.Prelude.{◌≡◌, ℕ, ◌-◌, ◌^◌, All, List, ◌∷◌, [], ◌++◌, filter, length, map, not, take}
use Rattle.desk_text.specs.Address.{number_of}
use Rattle.desk_text.specs.Network.{Block, last_of}
use Rattle.desk_policy.specs.declared.row.Row.{Row}
use Rattle.desk_who.specs.Runs.{Run}
use Rattle.page_data.specs.declared.class.Class.{Class}
use Rattle.page_maps.specs.Maps.{is_listed}
use Rattle.page_maps.specs.Order.{AreOrdered}
use Rattle.page_maps.specs.LineNetworks.{written_networks}
use Rattle.page_html.specs.Ranges.{Ends}
use Rattle.page_filesystem.specs.declared.shares.Share.{Share}
use Rattle.page_filesystem.specs.declared.shares.Space.{Space}
use Rattle.page_filesystem.specs.declared.shares.Space.TheVariants as space
use Rattle.page_filesystem.specs.Counting.{AreCountsOverFrom, between, outside_private}
use Rattle.page_filesystem.specs.declared.counted_shares.Shares.{Shares}

-- the private networks (RFC 1918)
abbrev pub private_networks : List Block
private_networks =
    record { first = 167772160; prefix = 8 } ∷ record { first = 2886729728; prefix = 12 } ∷ record { first = 3232235520; prefix = 16 } ∷ []

-- of which addresses a share is: of all, of those in no private network, or of those of a network
abbrev pub whole : Space
whole = space.All

abbrev pub outside : Space
outside = space.OutsidePrivate

abbrev pub network_space : Block → Space
network_space network = space.Network (record { number = network.first }) network.prefix

-- the ranges of these addresses
abbrev pub ends_of : Block → Ends
ends_of network = between network.first (last_of network)

abbrev pub ranges_of : Space → List Ends
ranges_of space.All = between 0 (2 ^ 32 - 1) ∷ []
ranges_of space.OutsidePrivate = outside_private
ranges_of (space.Network first prefix) = ends_of (record { first = number_of first; prefix = prefix }) ∷ []

-- a share tells how many of its addresses are of each class
abbrev pub IsShareFrom : List (Run Class) → Share → Type 0
IsShareFrom runs share = AreCountsOverFrom runs (ranges_of share.space) share.counts

-- shares of these addresses, in this order
pub record AreSharesOf (runs : List (Run Class)) (named : List Space) (shares : List Share) : Type 0 where
  pub told : map (λ share. share.space) shares ≡ named
  pub each : All (IsShareFrom runs) shares

-- of all addresses, of those outside the private networks, of each of these, and of each of some other networks
abbrev pub spaces : List Block → List Space
spaces own = whole ∷ outside ∷ map network_space (private_networks ++ own)

-- the networks that lines write, but for the private ones: the wider before the narrower, then by address, each once
pub record AreOwnNetworks (rows : List Row) (own : List Block) : Type 0 where
  pub written : List Block
  pub ordered : AreOrdered (written_networks rows) written
  pub are : own ≡ filter (λ network. not (is_listed private_networks network)) written

-- how many of the networks that lines write have a share at most, beside the private ones
abbrev pub most_networks : ℕ
most_networks = 12

-- The shares of a file system with these lines: of the networks that they write the first have one, and the others are counted.
pub record AreShares (runs : List (Run Class)) (rows : List Row) (made : Shares) : Type 0 where
  pub own : List Block
  pub networks : AreOwnNetworks rows own
  pub shares : AreSharesOf runs (spaces (take most_networks own)) made.shares
  pub left_out : made.left_out ≡ length own - most_networks
