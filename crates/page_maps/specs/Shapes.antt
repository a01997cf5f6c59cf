-- The shapes that the maps of a page have in common. (this project's own, over SVG)
use Rattle.std.specs.Prelude.{ℕ, List}
use Rattle.page_maps.specs.declared.shapes.TheConstants.{SHAPES}

-- the patterns that fill cells, the ground of a map, its grid, and the numbers of its rows
unfoldable pub shapes : List ℕ
shapes = SHAPES.now
