-- Networks in order: the wider before the narrower, then by address, each once. (this project's own)
use Rattle.std.specs.Prelude.{◌≡◌, ◌⊎◌, ◌↔◌, ◌<◌, Contains, List}
use Rattle.std.specs.List.{AllPairs}
use Rattle.desk_text.specs.Network.{Block}

-- the wider network comes first, and of two of one prefix that of the lower addresses
abbrev pub ComesBefore : Block → Block → Type 0
ComesBefore network other = (network.prefix < other.prefix) ⊎ ((network.prefix ≡ other.prefix) × (network.first < other.first))

-- The same networks in order, each once.
pub record AreOrdered (networks ordered : List Block) : Type 0 where
  pub order : AllPairs ComesBefore ordered
  pub same : (network : Block) → Contains ordered network ↔ Contains networks network
