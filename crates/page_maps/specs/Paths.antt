-- The paths of a map: its 256 cells in 16 rows of 16, each cell 4 units wide, of which some are filled, or marked. (this project's own,
-- over SVG, "Paths")
use Rattle.std.specs.Prelude.{ℕ, ◌+◌, ◌-◌, ◌*◌, ◌/◌, ◌%◌, ◌==◌, ◌&&◌, Bool, false, not, List, [], ◌++◌, codes, drop, map, slice_index_or, take, if◌then◌else◌}
use Rattle.std.specs.Fmt.{decimal}
use Rattle.std.specs.List.{flat_map, list_all, position_or_len, range_with_len}
use Rattle.page_maps.specs.declared.paths.Shape.{Shape}
use Rattle.page_maps.specs.declared.paths.Shape.TheVariants.{Diamond, Square}

-- the one at a place is among those that are meant
abbrev pub is_meant : List Bool → ℕ → Bool
is_meant which place = slice_index_or which place false

-- the one before a place is
abbrev pub is_meant_before : List Bool → ℕ → Bool
is_meant_before which place = if place == 0 then false else is_meant which (place - 1)

-- a longest piece begins at a place: the one there is meant, and the one before it is not
abbrev pub begins_at : List Bool → ℕ → Bool
begins_at which place = is_meant which place && not (is_meant_before which place)

-- how many are meant from a place on, before the first that is not
abbrev pub length_from : List Bool → ℕ → ℕ
length_from which place = position_or_len not (drop place which)

-- where a shape begins, and a side of it, as many cells long, by the way in which it goes
abbrev pub place : ℕ → ℕ → List ℕ
place x y = codes "M" ++ decimal x ++ codes " " ++ decimal y

abbrev pub side : List ℕ → ℕ → List ℕ
side way cells = way ++ decimal (4 * cells)

-- a rectangle, by its left and its upper edge, its width and its height, all counted in cells
abbrev pub rectangle : ℕ → ℕ → ℕ → ℕ → List ℕ
rectangle left top width height =
    place (4 * left) (4 * top) ++ side (codes "h") width ++ side (codes "v") height ++ side (codes "h-") width ++ codes "z"

-- a row of a map
abbrev pub row_of : List Bool → ℕ → List Bool
row_of which y = take 16 (drop (16 * y) which)

-- all cells of a row are meant
abbrev pub is_whole : List Bool → Bool
is_whole row = list_all (λ is. is) row

-- of each row, whether it is whole
unfoldable pub whole_rows : List Bool → List Bool
whole_rows which = map (λ y. is_whole (row_of which y)) (range_with_len 0 16)

-- whole rows that are neighbours, in one piece, where the first of them is
abbrev pub whole_at : List Bool → ℕ → List ℕ
whole_at wholes y = if begins_at wholes y then rectangle 0 y 16 (length_from wholes y) else []

-- a longest piece of a row, where it begins
abbrev pub piece_at : List Bool → ℕ → ℕ → List ℕ
piece_at row y x = if begins_at row x then rectangle x y (length_from row x) 1 else []

-- the longest pieces of a row
unfoldable pub pieces : List Bool → ℕ → List ℕ
pieces row y = flat_map (piece_at row y) (range_with_len 0 16)

-- what begins in a row: if it is whole, it and its whole neighbours in one piece; if not, its longest pieces
abbrev pub row_path : List Bool → List Bool → ℕ → List ℕ
row_path which wholes y = if is_whole (row_of which y) then whole_at wholes y else pieces (row_of which y) y

-- The grounds of the cells that are meant, given of each of the 256 cells whether it is: row by row, what begins there.
unfoldable pub ground_path : List Bool → List ℕ
ground_path which = flat_map (row_path which (whole_rows which)) (range_with_len 0 16)

-- a square in the middle of a cell, and a diamond as large as the cell
abbrev pub shape : Shape → ℕ → ℕ → List ℕ
shape Square x y = place (4 * x + 1) (4 * y + 1) ++ codes "h2v2h-2z"
shape Diamond x y = place (4 * x + 2) (4 * y) ++ codes "l2 2-2 2-2-2z"

-- the mark of a cell, if it is meant
abbrev pub mark_at : List Bool → Shape → ℕ → List ℕ
mark_at which mark cell = if is_meant which cell then shape mark (cell % 16) (cell / 16) else []

-- The marks of the cells that are meant, given the same.
unfoldable pub mark_path : List Bool → Shape → List ℕ
mark_path which mark = flat_map (mark_at which mark) (range_with_len 0 256)
