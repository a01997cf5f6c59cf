-- What the private contracts of the order of networks cite.
use Rattle.std.specs.Prelude.{ℕ, ◌+◌, ◌*◌, ◌^◌}
use Rattle.desk_text.specs.Network.{Block}

-- a number that is less for the network that comes before
abbrev pub order_of : Block → ℕ
order_of network = network.prefix * 2 ^ 32 + network.first
