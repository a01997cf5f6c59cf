-- The cells of a map: a network in 256 parts of equal size, each with the least and the most that its addresses may. (this
-- project's own)
use Rattle.std.specs.Prelude.{◌≡◌, ℕ, ◌+◌, ◌-◌, ◌*◌, ◌^◌, ◌<◌, ◌≤◌, List, length, slice_index_or}
use Rattle.desk_text.specs.Network.{Block}
use Rattle.desk_who.specs.Runs.{AreRuns, Run}
use Rattle.page_data.specs.Class.{rank_of}
use Rattle.page_data.specs.declared.class.Class.{Class}
use Rattle.page_maps.specs.declared.cells.Cell.{Cell}

-- how many addresses each cell has of a network of this prefix, which is at most 24: a 256th of all
abbrev pub cell_size : ℕ → ℕ
cell_size prefix = 2 ^ (24 - prefix)

-- the first address of a cell, and the last one; cells are numbered from 0
abbrev pub cell_first : Block → ℕ → ℕ
cell_first network number = network.first + number * cell_size network.prefix

abbrev pub cell_last : Block → ℕ → ℕ
cell_last network number = cell_first network number + (cell_size network.prefix - 1)

-- an address from the first to the last is of this class
pub record HasClass (class_at : ℕ → Class) (first last : ℕ) (class : Class) : Type 0 where
  pub address : ℕ
  pub from : first ≤ address
  pub to : address ≤ last
  pub is : class_at address ≡ class

-- The least and the most that the addresses from the first to the last may: none may less, none may more, and some may just that.
pub record AreLeastAndMost (class_at : ℕ → Class) (first last : ℕ) (cell : Cell) : Type 0 where
  pub none_less : (address : ℕ) → first ≤ address → address ≤ last → rank_of cell.least ≤ rank_of (class_at address)
  pub none_more : (address : ℕ) → first ≤ address → address ≤ last → rank_of (class_at address) ≤ rank_of cell.most
  pub some_least : HasClass class_at first last cell.least
  pub some_most : HasClass class_at first last cell.most

-- The cells of the map of a network, in the order of their addresses.
pub record AreCells (class_at : ℕ → Class) (network : Block) (cells : List Cell) : Type 0 where
  pub count : length cells ≡ 256
  pub each : (number : ℕ) (default : Cell) → number < 256
      → AreLeastAndMost class_at (cell_first network number) (cell_last network number) (slice_index_or cells number default)

-- Given the runs of a function of addresses, the cells of the map of a network.
abbrev pub AreCellsFrom : List (Run Class) → Block → List Cell → Type 0
AreCellsFrom runs network cells = (class_at : ℕ → Class) → AreRuns class_at runs → AreCells class_at network cells
