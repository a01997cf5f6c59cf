-- A whole page, and the pieces that it is made of. (this project's own, over HTML)
use Rattle.std.specs.Prelude.{ℕ, Bool, List, [], ◌∷◌, ◌++◌, codes, drop, length, map, nat_le, take, if◌then◌else◌}
use Rattle.std.specs.Fmt.{decimal}
use Rattle.std.specs.List.{flat_map}
use Rattle.page_html.specs.Amounts.{and_more}
use Rattle.page_html.specs.Escaping.{attribute, escaped, escaped_line}
use Rattle.page_html.specs.PartAmounts.{more}
use Rattle.page_html.specs.Blocks.{element_end, element_html, element_start, facts_html, facts_start, system_start, tag_html}
use Rattle.page_html.specs.Head.{head_start, page_head, sheet}
use Rattle.page_html.specs.Items.{Item, Own, Text, Code, Digest, Codes, SomeCodes, Line, System, SystemLine, own_html}
use Rattle.page_html.specs.PartPieces.{link_end, link_start}
use Rattle.page_html.specs.Tables.{Column, Frame, box_end, box_start, caption_end, caption_start, cell_end, cell_start, class_html, heads, heads_end, line_row_html, line_row_start, marked_row_html, marked_start, row_html, table_start}
use Rattle.page_html.specs.Titles.{Title, Said, Named, Further}
use Rattle.page_html.specs.declared.blocks.Element.{Element}
use Rattle.page_html.specs.declared.blocks.Tag.{Tag}

-- What a function of this crate adds to a page, in which a site's texts are of a type.
pub data Block (T : Type 0) : Type 0 where
  Head : T → Block T
  Start : Frame → List (Title T) → Block T
  Row : Frame → List (List (Item T)) → Block T
  MarkedRow : Bool → Frame → List (List (Item T)) → Block T
  LineRow : ℕ → ℕ → Bool → Frame → List (List (Item T)) → Block T
  Facts : Frame → List (List (Item T)) → Block T
  In : Element → List (Item T) → Block T
  Alone : Tag → Block T
  SystemStart : ℕ → Block T
  Fixed : List ℕ → Block T

abbrev pub block_html : Block (List ℕ) → List ℕ
block_html (Head title) = page_head title
block_html (Start frame title) = table_start frame title
block_html (Row frame cells) = row_html frame cells
block_html (MarkedRow is_marked frame cells) = marked_row_html is_marked frame cells
block_html (LineRow fs line is_marked frame cells) = line_row_html fs line is_marked frame cells
block_html (Facts frame facts) = facts_html frame facts
block_html (In element items) = element_html element items
block_html (Alone tag) = tag_html tag
block_html (SystemStart fs) = system_start fs
block_html (Fixed html) = html

-- a page, of what is added to it
unfoldable pub page_html : List (Block (List ℕ)) → List ℕ
page_html blocks = flat_map block_html blocks

-- A piece of a page: bytes of the page's own, or a text of a site, between tags, as a line of a file, or as an attribute.
pub data Piece (T : Type 0) : Type 0 where
  Bytes : List ℕ → Piece T
  Shown : T → Piece T
  ShownLine : T → Piece T
  Attribute : T → Piece T

abbrev pub piece_html : Piece (List ℕ) → List ℕ
piece_html (Bytes bytes) = bytes
piece_html (Shown text) = escaped text
piece_html (ShownLine line) = escaped_line line
piece_html (Attribute text) = attribute text

unfoldable pub html : List (Piece (List ℕ)) → List ℕ
html pieces = flat_map piece_html pieces

-- pieces between two of the page's own
abbrev pub between : {T : Type 0} → List ℕ → List (Piece T) → List ℕ → List (Piece T)
between start pieces end = Bytes start ∷ pieces ++ Bytes end ∷ []

-- the pieces of a part, of whatever type its texts are
abbrev pub code_pieces : {T : Type 0} → T → List (Piece T)
code_pieces text = Bytes (codes "<code>") ∷ Shown text ∷ Bytes (codes "</code>") ∷ []

abbrev pub later_pieces : {T : Type 0} → List T → List (Piece T)
later_pieces [] = []
later_pieces (text ∷ texts) = Bytes (codes ", ") ∷ code_pieces text ++ later_pieces texts

abbrev pub list_pieces : {T : Type 0} → List T → List (Piece T)
list_pieces [] = []
list_pieces (text ∷ texts) = code_pieces text ++ later_pieces texts

abbrev pub some_pieces : {T : Type 0} → ℕ → List T → List (Piece T)
some_pieces most texts =
    if nat_le (length texts) most then list_pieces texts else list_pieces (take most texts) ++ Bytes (and_more (length (drop most texts))) ∷ []

abbrev pub item_pieces : {T : Type 0} → Item T → List (Piece T)
item_pieces (Own own) = Bytes (own_html own) ∷ []
item_pieces (Text text) = Shown text ∷ []
item_pieces (Code text) = code_pieces text
item_pieces (Digest text) = Bytes (codes "<code class=\"sha\">") ∷ Shown text ∷ Bytes (codes "</code>") ∷ []
item_pieces (Codes texts) = list_pieces texts
item_pieces (SomeCodes most texts) = some_pieces most texts
item_pieces (Line line) = Bytes (codes "<code>") ∷ ShownLine line ∷ Bytes (codes "</code>") ∷ []
item_pieces (System fs name) = between (codes "<a href=\"#f" ++ decimal fs ++ codes "\">") (code_pieces name) (codes "</a>")
item_pieces (SystemLine fs name line) = between (link_start fs line) (code_pieces name) (link_end line)

abbrev pub items_pieces : {T : Type 0} → List (Item T) → List (Piece T)
items_pieces [] = []
items_pieces (item ∷ items) = item_pieces item ++ items_pieces items

-- those of cells and of a row
abbrev pub cells_pieces : {T : Type 0} → List Column → List (List (Item T)) → List (Piece T)
cells_pieces [] cells = []
cells_pieces (column ∷ columns) [] = []
cells_pieces (column ∷ columns) (items ∷ cells) =
    between (cell_start column) (items_pieces items) (cell_end column) ++ cells_pieces columns cells

abbrev pub row_pieces : {T : Type 0} → List ℕ → Frame → List (List (Item T)) → List (Piece T)
row_pieces start frame cells = between start (cells_pieces frame.columns cells) (codes "</tr>\n")

-- those of a title, as the caption and as an attribute, and of the start of a table
abbrev pub caption_pieces : {T : Type 0} → Title T → List (Piece T)
caption_pieces (Said words) = Bytes (attribute words) ∷ []
caption_pieces (Named name) = code_pieces name
caption_pieces (Further count) = Bytes (more count) ∷ []

abbrev pub captions_pieces : {T : Type 0} → List (Title T) → List (Piece T)
captions_pieces [] = []
captions_pieces (part ∷ title) = caption_pieces part ++ captions_pieces title

abbrev pub label_pieces : {T : Type 0} → Title T → List (Piece T)
label_pieces (Said words) = Bytes (attribute words) ∷ []
label_pieces (Named name) = Attribute name ∷ []
label_pieces (Further count) = Bytes (more count) ∷ []

abbrev pub labels_pieces : {T : Type 0} → List (Title T) → List (Piece T)
labels_pieces [] = []
labels_pieces (part ∷ title) = label_pieces part ++ labels_pieces title

abbrev pub start_pieces : {T : Type 0} → Frame → List (Title T) → List (Piece T)
start_pieces frame title =
    between box_start (labels_pieces title) box_end
    ++ (Bytes (class_html frame.class)
    ∷ (between (caption_start frame.is_titled) (captions_pieces title) caption_end ++ (Bytes (heads frame.columns ++ heads_end) ∷ [])))

-- those of what is added to a page, and of a page
abbrev pub block_pieces : {T : Type 0} → Block T → List (Piece T)
block_pieces (Head title) = Bytes head_start ∷ Attribute title ∷ Bytes sheet ∷ []
block_pieces (Start frame title) = start_pieces frame title
block_pieces (Row frame cells) = row_pieces (codes "<tr>") frame cells
block_pieces (MarkedRow is_marked frame cells) = row_pieces (marked_start is_marked) frame cells
block_pieces (LineRow fs line is_marked frame cells) = row_pieces (line_row_start fs line is_marked) frame cells
block_pieces (Facts frame facts) = between (facts_start frame.class) (cells_pieces frame.columns facts) (codes "</dl>\n")
block_pieces (In element items) = between (element_start element) (items_pieces items) (element_end element)
block_pieces (Alone tag) = Bytes (tag_html tag) ∷ []
block_pieces (SystemStart fs) = Bytes (system_start fs) ∷ []
block_pieces (Fixed html) = Bytes html ∷ []

abbrev pub page_pieces : {T : Type 0} → List (Block T) → List (Piece T)
page_pieces [] = []
page_pieces (block ∷ blocks) = block_pieces block ++ page_pieces blocks

-- a part, a title and what is added to a page, with another text in place of each of a site's
abbrev pub item_with : {T U : Type 0} → (T → U) → Item T → Item U
item_with f (Own own) = Own own
item_with f (Text text) = Text (f text)
item_with f (Code text) = Code (f text)
item_with f (Digest text) = Digest (f text)
item_with f (Codes texts) = Codes (map f texts)
item_with f (SomeCodes most texts) = SomeCodes most (map f texts)
item_with f (Line line) = Line (f line)
item_with f (System fs name) = System fs (f name)
item_with f (SystemLine fs name line) = SystemLine fs (f name) line

abbrev pub cells_with : {T U : Type 0} → (T → U) → List (List (Item T)) → List (List (Item U))
cells_with f cells = map (map (item_with f)) cells

abbrev pub title_with : {T U : Type 0} → (T → U) → Title T → Title U
title_with f (Said words) = Said words
title_with f (Named name) = Named (f name)
title_with f (Further count) = Further count

abbrev pub block_with : {T U : Type 0} → (T → U) → Block T → Block U
block_with f (Head title) = Head (f title)
block_with f (Start frame title) = Start frame (map (title_with f) title)
block_with f (Row frame cells) = Row frame (cells_with f cells)
block_with f (MarkedRow is_marked frame cells) = MarkedRow is_marked frame (cells_with f cells)
block_with f (LineRow fs line is_marked frame cells) = LineRow fs line is_marked frame (cells_with f cells)
block_with f (Facts frame facts) = Facts frame (cells_with f facts)
block_with f (In element items) = In element (map (item_with f) items)
block_with f (Alone tag) = Alone tag
block_with f (SystemStart fs) = SystemStart fs
block_with f (Fixed html) = Fixed html

-- the same of a piece
abbrev pub piece_with : {T U : Type 0} → (T → U) → Piece T → Piece U
piece_with f (Bytes bytes) = Bytes bytes
piece_with f (Shown text) = Shown (f text)
piece_with f (ShownLine line) = ShownLine (f line)
piece_with f (Attribute text) = Attribute (f text)
