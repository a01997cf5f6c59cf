-- How many addresses a network has.
use Rattle.std.proofs.Common.{◌≡◌, ◌+◌, ◌-◌, ◌<◌, ◌≤◌, ◌^◌, arith}
use Rattle.std.proofs.lemmas.Nat.{pow_pos}
use Rattle.desk_text.specs.Network.{Block, block_size, last_of}
use Rattle.page_data.specs.Counts.{granted_of}
use Rattle.page_data.specs.declared.counts.Counts.{Counts}

-- no more of its addresses may mount something than it has
pub part_of_network : (network : Block) (counts : Counts) → counts.denied + counts.read_only + counts.read_write + counts.root_kept ≡ last_of network + 1 - network.first
    → granted_of counts ≤ block_size network.prefix
part_of_network network counts sum = (let some : 0 < 2 ^ (32 - network.prefix) = pow_pos (32 - network.prefix) in omega arith)
