-- The addresses of a network.
use Rattle.std.proofs.Common.{◌≡◌, ℕ, ◌+◌, ◌-◌, ◌*◌, ◌/◌, ◌^◌, ◌<◌, ◌≤◌, sym, ap, ◌∙◌, arith}
use Rattle.std.proofs.lemmas.Bool.{eqb-true, eq-eqb}
use Rattle.std.proofs.lemmas.Nat.{pow-add, pow_pos}
use Rattle.std.proofs.Math.Nat.{div-eq_of_lt-le, div-mul-le_self, lt-div-mul-add, mul-le-mul_right, lt_of_mul-lt-mul_right}
use Rattle.desk_text.specs.Laws.{CoversBetweenFirstAndLast}
use Rattle.desk_text.specs.Network.{Block, IsBlock, block_size, last_of}

-- the networks of a prefix fill the addresses
filled : (prefix : ℕ) → prefix ≤ 32 → 2 ^ prefix * block_size prefix ≡ 2 ^ 32
filled prefix few =
    let all : prefix + (32 - prefix) ≡ 32 = omega arith in
    sym (pow-add 2 prefix (32 - prefix)) ∙ ap (λ bits. 2 ^ bits) all

-- the addresses behind a network begin at an address or behind the last one
module _ (first size blocks : ℕ) (whole : blocks * size ≡ 2 ^ 32) (fits : first < 2 ^ 32) (no_host_bits : first / size * size ≡ first) where
  ends_within : first + size ≤ 2 ^ 32
  ends_within =
      let below : first / size < blocks = lt_of_mul-lt-mul_right size (omega arith) in
      let up : (first / size + 1) * size ≤ blocks * size = mul-le-mul_right size (omega arith) in
      omega arith

pub last_fits : (block : Block) → IsBlock block → last_of block < 2 ^ 32
last_fits block is =
    let ends = ends_within block.first (block_size block.prefix) (2 ^ block.prefix) (filled block.prefix is.prefix) is.first is.no_host_bits in
    let some = pow_pos (32 - block.prefix) in
    omega arith

module _ (first size address : ℕ) (some : 0 < size) (no_host_bits : first / size * size ≡ first) where
  within : address / size ≡ first / size → (first ≤ address) × (address ≤ first + (size - 1))
  within same =
      let at : address / size * size ≡ first / size * size = ap (λ (block : ℕ). block * size) same in
      let low = div-mul-le_self address size in
      let high : address < address / size * size + size = lt-div-mul-add some in
      (omega arith, omega arith)

  covered : first ≤ address → address ≤ first + (size - 1) → address / size ≡ first / size
  covered low high = div-eq_of_lt-le size (omega arith) (omega arith)

pub covers_between_first_and_last : CoversBetweenFirstAndLast
covers_between_first_and_last block is address =
    let size = block_size block.prefix in
    let some = pow_pos (32 - block.prefix) in (
      λ covers. within block.first size address some is.no_host_bits (eqb-true (address / size) (block.first / size) covers),
      λ between. eq-eqb (address / size) (block.first / size) (covered block.first size address some is.no_host_bits between.0 between.1),
    )
