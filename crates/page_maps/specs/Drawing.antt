-- A map as an image. (this project's own, over SVG and HTML)
use Rattle.std.specs.Prelude.{ℕ, ◌==◌, ◌&&◌, Bool, not, List, [], ◌∷◌, ◌++◌, codes, map, if◌then◌else◌}
use Rattle.std.specs.List.{list_any}
use Rattle.desk_text.specs.Network.{Block, block_size}
use Rattle.page_data.specs.Class.{same_class}
use Rattle.page_data.specs.declared.class.Class.{Class}
use Rattle.page_data.specs.declared.class.Class.TheVariants.{Denied, ReadOnly, ReadWrite, RootKept}
use Rattle.page_maps.specs.declared.cells.Cell.{Cell}
use Rattle.page_findings.specs.Badges.{count_words}
use Rattle.page_html.specs.Items.{Item, Network, Number, Own, Words, items_html}
use Rattle.page_maps.specs.Paths.{ground_path, mark_path}
use Rattle.page_maps.specs.declared.drawn_maps.DrawnMap.{DrawnMap}
use Rattle.page_maps.specs.declared.paths.Shape.{Shape}
use Rattle.page_maps.specs.declared.paths.Shape.TheVariants.{Diamond, Square}

-- of each cell, whether it is filled for a class: that is the least that its addresses may
unfoldable pub filled_for : Class → List Cell → List Bool
filled_for class cells = map (λ cell. same_class cell.least class) cells

-- of each cell, whether it is marked for a class: that is the most that its addresses may, and not all of them may it
unfoldable pub marked_for : Class → List Cell → List Bool
marked_for class cells = map (λ cell. same_class cell.most class && not (same_class cell.least class)) cells

-- the class of the style sheet for a class, and the shape of its marks
abbrev pub class_letter : Class → List ℕ
class_letter Denied = codes "n"
class_letter ReadOnly = codes "o"
class_letter ReadWrite = codes "w"
class_letter RootKept = codes "r"

abbrev pub shape_of : Class → Shape
shape_of Denied = Square
shape_of ReadOnly = Square
shape_of ReadWrite = Square
shape_of RootKept = Diamond

-- a path of grounds, and one of marks
abbrev pub ground : Class → List Bool → List ℕ
ground class which = codes "<path class=\"" ++ class_letter class ++ codes "\" d=\"" ++ ground_path which ++ codes "\"/>"

abbrev pub mark : Class → List Bool → List ℕ
mark class which = codes "<path class=\"" ++ class_letter class ++ codes " k\" d=\"" ++ mark_path which (shape_of class) ++ codes "\"/>"

-- the same, if any cell is filled or marked
abbrev pub ground_if_any : Class → List Bool → List ℕ
ground_if_any class which = if list_any (λ is. is) which then ground class which else []

abbrev pub mark_if_any : Class → List Bool → List ℕ
mark_if_any class which = if list_any (λ is. is) which then mark class which else []

-- the grounds of each class, and the marks of each
abbrev pub grounds : List Cell → List ℕ
grounds cells =
    ground_if_any ReadOnly (filled_for ReadOnly cells) ++ ground_if_any ReadWrite (filled_for ReadWrite cells)
    ++ ground_if_any RootKept (filled_for RootKept cells)

abbrev pub marks : List Cell → List ℕ
marks cells =
    mark_if_any ReadOnly (marked_for ReadOnly cells) ++ mark_if_any ReadWrite (marked_for ReadWrite cells)
    ++ mark_if_any RootKept (marked_for RootKept cells)

abbrev pub map_paths : List Cell → List ℕ
map_paths cells = grounds cells ++ marks cells

-- a network, which has its prefix even if it is one address
abbrev pub network_item : Block → Item (List ℕ)
network_item network = Own (Network network.first network.prefix)

-- what is said to those who do not see the map, as `Map of 10.0.0.0/8: read-only 256, of 16,777,216 addresses`
abbrev pub label_start : Block → List ℕ
label_start network = items_html (Own (Words (codes "Map of ")) ∷ network_item network ∷ Own (Words (codes ": ")) ∷ [])

abbrev pub label_end : Block → List ℕ
label_end network = items_html (Own (Words (codes ", of ")) ∷ Own (Number (block_size network.prefix)) ∷ Own (Words (codes " addresses")) ∷ [])

abbrev pub label : DrawnMap → List ℕ
label drawn = label_start drawn.network ++ count_words drawn.counts ++ label_end drawn.network

-- the numbers of the rows, which are others for a network of 12 bits, and the ground of the map
abbrev pub axis : Block → List ℕ
axis network =
    if network.prefix == 12 then codes "\"><use href=\"#y12\"/><use href=\"#g\"/>"
    else codes "\"><use href=\"#y\"/><use href=\"#g\"/>"

-- a map with the numbers of its rows, and a grid
abbrev pub large_map : DrawnMap → List ℕ
large_map drawn =
    codes "<svg class=\"big\" viewBox=\"-15 -1 80 66\" role=\"img\" aria-label=\"" ++ label drawn ++ axis drawn.network
    ++ map_paths drawn.cells ++ codes "<use href=\"#h\"/></svg>"

-- one without them
abbrev pub small_map : DrawnMap → List ℕ
small_map drawn =
    codes "<svg class=\"tiny\" viewBox=\"-1 -1 66 66\" role=\"img\" aria-label=\"" ++ label drawn ++ codes "\"><use href=\"#g\"/>"
    ++ map_paths drawn.cells ++ codes "</svg>"
