-- The cells of a map have each address of the network once.
use Rattle.std.proofs.Common.{◌≡◌, ℕ, ◌+◌, ◌-◌, ◌*◌, ◌/◌, ◌<◌, ◌≤◌, ◌∙◌, ap, arith, sym}
use Rattle.std.proofs.Math.Nat.{div-mul-le_self, lt-div-mul-add}
use Rattle.std.proofs.lemmas.Nat.{div-mul-add, div_below}
use Rattle.desk_text.specs.Laws.{CoversBetweenFirstAndLast}
use Rattle.page_maps.specs.Cells.{cell_size}
use Rattle.page_maps.specs.Laws.{CellsCoverTheNetwork}
use Rattle.page_maps.proofs.Gridding.{cell_within, of_cells, some_addresses}

module _ (size first address : ℕ) (some : 0 < size) where
  -- the number of a cell that has the address
  number_is : (number : ℕ) → first + number * size ≤ address → address ≤ first + number * size + (size - 1) → number ≡ (address - first) / size
  number_is number low high =
      let rest : address - first ≡ number * size + (address - first - number * size) = omega arith in
      sym (ap (λ n. n / size) rest ∙ div-mul-add number size (address - first - number * size) (omega arith))

  -- the cell of that number has the address
  has_it : first ≤ address → (number : ℕ) → number ≡ (address - first) / size → (first + number * size ≤ address) × (address ≤ first + number * size + (size - 1))
  has_it from number is =
      let same = ap (λ n. n * size) is in
      let low = div-mul-le_self (address - first) size in
      let high : address - first < (address - first) / size * size + size = lt-div-mul-add some in
      (omega arith, omega arith)

pub cells_cover : CoversBetweenFirstAndLast → CellsCoverTheNetwork
cells_cover covers network is wide =
    let size = cell_size network.prefix in
    let some = some_addresses network.prefix in
    let whole = of_cells network.prefix wide in (
      λ address covered.
          let between = (covers network is address).0 covered in
          let low = between.0 in
          let high = between.1 in (
            div_below (address - network.first) (cell_size network.prefix) 256 some (omega arith),
            λ number. (
              λ inside. number_is (cell_size network.prefix) network.first address some number inside.0 inside.1,
              λ same. has_it (cell_size network.prefix) network.first address some low number same,
            ),
          ),
      λ number address few inside. (covers network is address).1 (
        (let low = inside.0 in omega arith),
        (let high = inside.1 in let within = cell_within network number wide few in omega arith),
      ),
    )
