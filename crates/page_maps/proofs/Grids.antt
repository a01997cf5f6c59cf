-- The grid of the map of an address: it lies on it, and the map is the widest of these.
use Rattle.std.proofs.Common.{◌≡◌, ℕ, ◌+◌, ◌-◌, ◌*◌, ◌/◌, ◌%◌, ◌<◌, ◌≤◌, ◌^◌, ◌∙◌, ap, arith, eqb, cond, sym}
use Rattle.std.proofs.Math.Nat.{add-mul, div-add-mod', mul_assoc}
use Rattle.std.proofs.lemmas.Bool.{cond_both, eqb-true, eqb-false}
use Rattle.std.proofs.lemmas.Nat.{mod_below, shr-shr}
use Rattle.desk_text.specs.Network.{Block, block_of, block_size, last_of}
use Rattle.page_maps.specs.Cells.{cell_first, cell_size}
use Rattle.page_maps.specs.Maps.{map_prefix}
use Rattle.page_maps.proofs.Gridding.{of_cells}

-- an address that is not the first one lies within its network of a prefix, behind the first address, and on the grid
pub record IsWithin (address prefix : ℕ) : Type 0 where
  pub behind_first : (block_of address prefix).first < address
  pub within : address ≤ last_of (block_of address prefix)
  pub on_grid : (address - (block_of address prefix).first) % cell_size prefix ≡ 0

whole_within : (address : ℕ) → 0 < address → address < 2 ^ 32 → address % 2 ^ 24 ≡ 0 → IsWithin address 0
whole_within address some fits grid = record { behind_first = omega arith; within = omega arith; on_grid = omega arith }

eight_within : (address : ℕ) → (address % 2 ^ 24 ≡ 0 → ⊥) → address % 2 ^ 16 ≡ 0 → IsWithin address 8
eight_within address off grid =
    let rest : 0 < address % 2 ^ 24 = (let no = off in omega arith) in
    record { behind_first = omega arith; within = omega arith; on_grid = omega arith }

sixteen_within : (address : ℕ) → (address % 2 ^ 16 ≡ 0 → ⊥) → address % 2 ^ 8 ≡ 0 → IsWithin address 16
sixteen_within address off grid =
    let rest : 0 < address % 2 ^ 16 = (let no = off in omega arith) in
    record { behind_first = omega arith; within = omega arith; on_grid = omega arith }

last_within : (address : ℕ) → (address % 2 ^ 8 ≡ 0 → ⊥) → IsWithin address 24
last_within address off =
    let rest : 0 < address % 2 ^ 8 = (let no = off in omega arith) in
    record { behind_first = omega arith; within = omega arith; on_grid = omega arith }

-- what holds of the prefix of the map of an address
pub by_prefix : (address : ℕ) (P : ℕ → Type 0) → (address % 2 ^ 24 ≡ 0 → P 0) → ((address % 2 ^ 24 ≡ 0 → ⊥) → address % 2 ^ 16 ≡ 0 → P 8) → ((address % 2 ^ 16 ≡ 0 → ⊥) → address % 2 ^ 8 ≡ 0 → P 16)
    → ((address % 2 ^ 8 ≡ 0 → ⊥) → P 24) → P (map_prefix address)
by_prefix address P whole eight sixteen last =
    cond_both (eqb (address % 2 ^ 24) 0) 0 (cond (eqb (address % 2 ^ 16) 0) 8 (cond (eqb (address % 2 ^ 8) 0) 16 24)) P (λ e. whole (eqb-true (address % 2 ^ 24) 0 e))
    (λ off. cond_both (eqb (address % 2 ^ 16) 0) 8 (cond (eqb (address % 2 ^ 8) 0) 16 24) P (λ e. eight (eqb-false (address % 2 ^ 24) 0 off) (eqb-true (address % 2 ^ 16) 0 e))
    (λ off'. cond_both (eqb (address % 2 ^ 8) 0) 16 24 P (λ e. sixteen (eqb-false (address % 2 ^ 16) 0 off') (eqb-true (address % 2 ^ 8) 0 e)) (λ off''. last (eqb-false (address % 2 ^ 8) 0 off''))))

pub is_within : (address : ℕ) → 0 < address → address < 2 ^ 32 → IsWithin address (map_prefix address)
is_within address some fits = by_prefix address (IsWithin address) (whole_within address some fits) (eight_within address) (sixteen_within address) (last_within address)

pub map_wide : (address : ℕ) → map_prefix address ≤ 24
map_wide address = by_prefix address (λ prefix. prefix ≤ 24) (λ e. omega arith) (λ off e. omega arith) (λ off e. omega arith) (λ off. omega arith)

pub map_grid : (address : ℕ) → address % cell_size (map_prefix address) ≡ 0
map_grid address = by_prefix address (λ prefix. address % cell_size prefix ≡ 0) (λ e. e) (λ off e. e) (λ off e. e) (λ off. omega arith)

-- a cell begins at an address
pub record IsAtCell (network : Block) (number address : ℕ) : Type 0 where
  pub few : number < 256
  pub begins : cell_first network number ≡ address

module _ (address prefix : ℕ) (wide : prefix ≤ 24) (grid : address % cell_size prefix ≡ 0) where
  abbrev size : ℕ
  size = cell_size prefix

  abbrev place : ℕ
  place = address / size

  pub whole_cells : address ≡ address / cell_size prefix * cell_size prefix
  whole_cells =
      let e : place * size + 0 ≡ place * size = omega arith in
      sym (div-add-mod' address size) ∙ ap (λ n. place * size + n) grid ∙ e

  quotient : address / block_size prefix ≡ place / 256
  quotient =
      let bits : (24 - prefix) + 8 ≡ 32 - prefix = omega arith in
      sym (shr-shr address (24 - prefix) 8 ∙ ap (λ n. address / 2 ^ n) bits)

  first_is : (block_of address prefix).first ≡ place / 256 * (size * 256)
  first_is = ap (λ n. n * block_size prefix) quotient ∙ ap (λ n. place / 256 * n) (of_cells prefix wide)

  pub begins_cell : IsAtCell (block_of address prefix) (address / cell_size prefix % 256) address
  begins_cell =
      let split : place ≡ place / 256 * 256 + place % 256 = omega arith in
      let turned : 256 * size ≡ size * 256 = omega arith in
      let parts : place * size ≡ place / 256 * 256 * size + place % 256 * size = ap (λ n. n * size) split ∙ add-mul (place / 256 * 256) (place % 256) size in
      let rows : place / 256 * 256 * size ≡ place / 256 * (size * 256) = mul_assoc (place / 256) 256 size ∙ ap (λ n. place / 256 * n) turned in
      record {
        few = mod_below place 256 (omega arith);
        begins = ap (λ n. n + place % 256 * size) (first_is ∙ sym rows) ∙ sym parts ∙ sym whole_cells;
      }
