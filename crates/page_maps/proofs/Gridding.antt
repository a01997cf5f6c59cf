-- The cells of a network are of one size, and its addresses are theirs.
use Rattle.std.proofs.Common.{◌≡◌, ℕ, ◌+◌, ◌-◌, ◌*◌, ◌/◌, ◌^◌, ◌<◌, ◌≤◌, ◌∙◌, ap, arith, sym}
use Rattle.std.proofs.lemmas.Nat.{mul-add-lt, pow-add, pow_pos}
use Rattle.desk_text.specs.Network.{Block, block_size, last_of}
use Rattle.page_maps.specs.Cells.{cell_last, cell_size}

-- a network has 256 times as many addresses as a cell
pub of_cells : (prefix : ℕ) → prefix ≤ 24 → block_size prefix ≡ cell_size prefix * 256
of_cells prefix few =
    let bits : (24 - prefix) + 8 ≡ 32 - prefix = omega arith in
    sym (ap (λ n. 2 ^ n) bits) ∙ pow-add 2 (24 - prefix) 8

pub some_addresses : (prefix : ℕ) → 0 < cell_size prefix
some_addresses prefix = pow_pos (24 - prefix)

sized : (size high low first : ℕ) → 0 < size → low ≡ first → high ≡ first + (size * 256 - 1) → (high - low) / 256 + 1 ≡ size
sized size high low first some same last = omega arith

pub size_is : (network : Block) (low high : ℕ) → network.prefix ≤ 24 → low ≡ network.first → high ≡ last_of network → (high - low) / 256 + 1 ≡ cell_size network.prefix
size_is network low high few same last =
    sized (cell_size network.prefix) high low network.first (some_addresses network.prefix) same (last ∙ ap (λ n. network.first + (n - 1)) (of_cells network.prefix few))

-- a cell lies within the network
within : (size first number : ℕ) → 0 < size → number < 256 → first + number * size + (size - 1) ≤ first + (size * 256 - 1)
within size first number some few =
    let up : number * size + (size - 1) < size * 256 = mul-add-lt number size (size - 1) 256 few (omega arith) in
    omega arith

pub cell_within : (network : Block) (number : ℕ) → network.prefix ≤ 24 → number < 256 → cell_last network number ≤ last_of network
cell_within network number few less =
    let up = within (cell_size network.prefix) network.first number (some_addresses network.prefix) less in
    let e = of_cells network.prefix few in
    omega arith
