-- Tables of the page. (this project's own, over HTML)
use Rattle.std.specs.Prelude.{ℕ, ◌==◌, Bool, List, [], ◌∷◌, ◌++◌, codes, length, map, if◌then◌else◌}
use Rattle.std.specs.Fmt.{decimal}
use Rattle.std.specs.List.{flat_map}
use Rattle.page_html.specs.Items.{Item, items_html}
use Rattle.page_html.specs.PartPieces.{within}
use Rattle.page_html.specs.Titles.{Title, captions_html, labels_html}
use Rattle.page_html.specs.declared.tables.Column.{Column as LentColumn}
use Rattle.page_html.specs.declared.tables.Column.TheVariants as lent
use Rattle.page_html.specs.declared.tables.Frame.{Frame as LentFrame}

-- A column by value: its words, and what its cells are: the heads of the rows, others, numbers, or the facts of a list.
pub data Column : Type 0 where
  Name : List ℕ → Column
  Plain : List ℕ → Column
  Count : List ℕ → Column
  Fact : List ℕ → Column

abbrev pub column_of : LentColumn → Column
column_of (lent.Name words) = Name words.now
column_of (lent.Plain words) = Plain words.now
column_of (lent.Count words) = Count words.now
column_of (lent.Fact words) = Fact words.now

-- A table or a list of facts by value: its class in the style sheet, whether its caption is seen, and its columns.
pub record Frame : Type 0 where
  pub class : List ℕ
  pub is_titled : Bool
  pub columns : List Column

abbrev pub frame_of : LentFrame → Frame
frame_of frame = record {
  class = frame.class.now;
  is_titled = frame.is_titled;
  columns = map column_of frame.columns.now;
}

-- a column, and what a row has in it; and of some columns the heads, and the cells of a row
abbrev pub Told : Type 0 → Type 0
Told Row = Column × (Row → List (Item (List ℕ)))

abbrev pub columns_of : {Row : Type 0} → List (Told Row) → List Column
columns_of told = map (λ one. one.0) told

abbrev pub cells_of : {Row : Type 0} → List (Told Row) → Row → List (List (Item (List ℕ)))
cells_of told row = map (λ one. one.1 row) told

-- a cell of a column
abbrev pub cell_start : Column → List ℕ
cell_start (Name words) = codes "<th scope=\"row\">"
cell_start (Plain words) = codes "<td>"
cell_start (Count words) = codes "<td class=\"num\">"
cell_start (Fact words) = within (codes "<div><dt>") words (codes "</dt><dd>")

abbrev pub cell_end : Column → List ℕ
cell_end (Name words) = codes "</th>"
cell_end (Plain words) = codes "</td>"
cell_end (Count words) = codes "</td>"
cell_end (Fact words) = codes "</dd></div>\n"

abbrev pub cell_html : Column → List (Item (List ℕ)) → List ℕ
cell_html column items = cell_start column ++ items_html items ++ cell_end column

-- the cells of a row, one for each column
unfoldable pub cells_html : List Column → List (List (Item (List ℕ))) → List ℕ
cells_html [] cells = []
cells_html (column ∷ columns) [] = []
cells_html (column ∷ columns) (items ∷ cells) = cell_html column items ++ cells_html columns cells

-- a row, by its first tag
abbrev pub row_in : List ℕ → Frame → List (List (Item (List ℕ))) → List ℕ
row_in start frame cells = start ++ cells_html frame.columns cells ++ codes "</tr>\n"

abbrev pub row_html : Frame → List (List (Item (List ℕ))) → List ℕ
row_html frame cells = row_in (codes "<tr>") frame cells

-- a row whose last cells are empty: for each column that has no cell there is an empty one
abbrev pub filled : List Column → List (List (Item (List ℕ))) → List (List (Item (List ℕ)))
filled [] cells = []
filled (column ∷ columns) [] = [] ∷ filled columns []
filled (column ∷ columns) (items ∷ cells) = items ∷ filled columns cells

abbrev pub short_row_html : Frame → List (List (Item (List ℕ))) → List ℕ
short_row_html frame cells = row_html frame (filled frame.columns cells)

-- a row that may stand out, and the row of a line of a file system, which links lead to
abbrev pub mark_end : Bool → List ℕ
mark_end is_marked = if is_marked then codes " class=\"hit\">" else codes ">"

abbrev pub marked_start : Bool → List ℕ
marked_start is_marked = codes "<tr" ++ mark_end is_marked

abbrev pub marked_row_html : Bool → Frame → List (List (Item (List ℕ))) → List ℕ
marked_row_html is_marked frame cells = row_in (marked_start is_marked) frame cells

abbrev pub line_row_start : ℕ → ℕ → Bool → List ℕ
line_row_start fs line is_marked = (codes "<tr id=\"f" ++ decimal fs ++ codes "-" ++ decimal line ++ codes "\"") ++ mark_end is_marked

abbrev pub line_row_html : ℕ → ℕ → Bool → Frame → List (List (Item (List ℕ))) → List ℕ
line_row_html fs line is_marked frame cells = row_in (line_row_start fs line is_marked) frame cells

unfoldable pub rows_html : Frame → List (List (List (Item (List ℕ)))) → List ℕ
rows_html frame rows = flat_map (row_html frame) rows

-- how a table begins: the box in which it can be scrolled, the caption, and the heads of its columns
abbrev pub box_start : List ℕ
box_start = codes "<div class=\"wide\" tabindex=\"0\" role=\"region\" aria-label=\""

abbrev pub box_end : List ℕ
box_end = codes "\"><table"

abbrev pub box : List (Title (List ℕ)) → List ℕ
box title = box_start ++ labels_html title ++ box_end

abbrev pub class_html : List ℕ → List ℕ
class_html class = if length class == 0 then codes ">\n" else within (codes " class=\"") class (codes "\">\n")

abbrev pub caption_start : Bool → List ℕ
caption_start is_titled = if is_titled then codes "<caption>" else codes "<caption class=\"off\">"

abbrev pub caption_end : List ℕ
caption_end = codes "</caption>\n<thead><tr>"

abbrev pub caption : Bool → List (Title (List ℕ)) → List ℕ
caption is_titled title = caption_start is_titled ++ captions_html title ++ caption_end

abbrev pub head : Column → List ℕ
head (Name words) = within (codes "<th scope=\"col\">") words (codes "</th>")
head (Plain words) = within (codes "<th scope=\"col\">") words (codes "</th>")
head (Fact words) = within (codes "<th scope=\"col\">") words (codes "</th>")
head (Count words) = within (codes "<th scope=\"col\" class=\"num\">") words (codes "</th>")

unfoldable pub heads : List Column → List ℕ
heads columns = flat_map head columns

abbrev pub heads_end : List ℕ
heads_end = codes "</tr></thead>\n<tbody>\n"

abbrev pub table_start : Frame → List (Title (List ℕ)) → List ℕ
table_start frame title = box title ++ class_html frame.class ++ caption frame.is_titled title ++ heads frame.columns ++ heads_end
