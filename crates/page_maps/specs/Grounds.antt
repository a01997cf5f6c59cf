-- What the path of grounds has. (this project's own)
use Rattle.std.specs.Prelude.{◌≡◌, ℕ, ◌+◌, ◌/◌, ◌%◌, ◌<◌, ◌≤◌, ◌&&◌, All, Bool, List, count_by, length, nat_le, nat_lt, if◌then◌else◌}
use Rattle.std.specs.List.{flat_map}
use Rattle.page_maps.specs.Paths.{ground_path, is_meant, rectangle}

-- a rectangle of cells
pub record Rectangle : Type 0 where
  pub left : ℕ
  pub top : ℕ
  pub width : ℕ
  pub height : ℕ

abbrev pub rectangle_text : Rectangle → List ℕ
rectangle_text one = rectangle one.left one.top one.width one.height

-- a number is one of so many from a first on
abbrev pub is_from : ℕ → ℕ → ℕ → Bool
is_from first count number = nat_le first number && nat_lt number (first + count)

-- a cell lies in a rectangle
abbrev pub has_cell : ℕ → Rectangle → Bool
has_cell cell one = is_from one.left one.width (cell % 16) && is_from one.top one.height (cell / 16)

-- each cell of a rectangle lies inside the map, which has 16 columns and 16 rows
abbrev pub IsInside : Rectangle → Type 0
IsInside one = (one.left + one.width ≤ 16) × (one.top + one.height ≤ 16)

-- The path of grounds is one of rectangles inside the map that have just the cells that are meant, each of them once.
pub record HasJustTheCells (which : List Bool) : Type 0 where
  pub rectangles : List Rectangle
  pub inside : All IsInside rectangles
  pub text : ground_path which ≡ flat_map rectangle_text rectangles
  pub cells : (cell : ℕ) → cell < 256 → count_by (has_cell cell) rectangles ≡ (if is_meant which cell then 1 else 0)

abbrev pub GroundsHaveJustTheCells : Type 0
GroundsHaveJustTheCells = (which : List Bool) → length which ≡ 256 → HasJustTheCells which
