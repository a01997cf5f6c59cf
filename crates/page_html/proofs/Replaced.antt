-- With other texts of a site in their place, just the texts among the pieces of a page are others.
use Rattle.std.proofs.Common.{◌≡◌, ℕ, List, [], ◌∷◌, ◌++◌, ◌∙◌, ap, map, refl, sym, codes, cond, drop, length, take, true, false}
use Rattle.std.specs.Prelude.{nat_le}
use Rattle.std.proofs.lemmas.List.{drop-map, length-map, map-append, take-map}
use Rattle.page_html.specs.Amounts.{and_more}
use Rattle.page_html.specs.Blocks.{element_end, element_start, facts_start}
use Rattle.page_html.specs.Items.{Item, Own, Text, Code, Digest, Codes, SomeCodes, Line, System, SystemLine}
use Rattle.page_html.specs.Pages.{Block, Head, Start, Row, MarkedRow, LineRow, Facts, In, Alone, SystemStart, Fixed, Piece, Bytes, between, block_pieces, block_with, caption_pieces, captions_pieces, cells_pieces, cells_with, code_pieces, item_pieces, item_with, items_pieces, label_pieces, labels_pieces, later_pieces, list_pieces, page_pieces, piece_with, row_pieces, some_pieces, start_pieces, title_with}
use Rattle.page_html.specs.Tables.{Column, Frame, box_end, box_start, caption_end, caption_start, cell_end, cell_start, class_html, heads, heads_end, line_row_start, marked_start}
use Rattle.page_html.specs.Titles.{Title, Said, Named, Further}

module _ (f : List ℕ → List ℕ) where
  between_replaced : (start end : List ℕ) (pieces others : List (Piece (List ℕ))) → map (piece_with f) pieces ≡ others
      → map (piece_with f) (between start pieces end) ≡ between start others end
  between_replaced start end pieces others same =
      ap (λ ps. Bytes start ∷ ps) (map-append (piece_with f) pieces (Bytes end ∷ []) ∙ ap (λ ps. ps ++ Bytes end ∷ []) same)

  later_replaced : (texts : List (List ℕ)) → map (piece_with f) (later_pieces texts) ≡ later_pieces (map f texts)
  later_replaced [] = refl
  later_replaced (text ∷ texts) = ap (λ ps. Bytes (codes ", ") ∷ code_pieces (f text) ++ ps) (later_replaced texts)

  list_replaced : (texts : List (List ℕ)) → map (piece_with f) (list_pieces texts) ≡ list_pieces (map f texts)
  list_replaced [] = refl
  list_replaced (text ∷ texts) = ap (λ ps. code_pieces (f text) ++ ps) (later_replaced texts)

  some_replaced : (most : ℕ) (texts : List (List ℕ)) → map (piece_with f) (some_pieces most texts) ≡ some_pieces most (map f texts)
  some_replaced most texts =
      let others = map f texts in
      let some = take most texts in
      let more = and_more (length (drop most texts)) in
      let cut : List (Piece (List ℕ)) = list_pieces (take most others) ++ Bytes (and_more (length (drop most others))) ∷ [] in
      let many : length others ≡ length texts = length-map texts f in
      let left : length (drop most others) ≡ length (drop most texts) =
      ap length (drop-map f most texts) ∙ length-map (drop most texts) f in
      let front : take most others ≡ map f some = take-map f most texts in
      elim (nat_le (length texts) most) as (λ few. map (piece_with f) (cond few (list_pieces texts) (list_pieces some ++ Bytes more ∷ []))
      ≡ cond few (list_pieces others) cut) [
        | true ↦ list_replaced texts
        | false ↦ map-append (piece_with f) (list_pieces some) (Bytes more ∷ []) ∙ ap (λ ps. ps ++ Bytes more ∷ []) (list_replaced some)
            ∙ ap (λ ts. list_pieces ts ++ Bytes more ∷ []) (sym front)
            ∙ ap (λ n. list_pieces (take most others) ++ Bytes (and_more n) ∷ []) (sym left)
      ]
      ∙ ap (λ n. cond (nat_le n most) (list_pieces others) cut) (sym many)

  item_replaced : (item : Item (List ℕ)) → map (piece_with f) (item_pieces item) ≡ item_pieces (item_with f item)
  item_replaced (Own own) = refl
  item_replaced (Text text) = refl
  item_replaced (Code text) = refl
  item_replaced (Digest text) = refl
  item_replaced (Codes texts) = list_replaced texts
  item_replaced (SomeCodes most texts) = some_replaced most texts
  item_replaced (Line line) = refl
  item_replaced (System fs name) = refl
  item_replaced (SystemLine fs name line) = refl

  items_replaced : (items : List (Item (List ℕ))) → map (piece_with f) (items_pieces items) ≡ items_pieces (map (item_with f) items)
  items_replaced [] = refl
  items_replaced (item ∷ items) =
      map-append (piece_with f) (item_pieces item) (items_pieces items)
      ∙ ap (λ ps. ps ++ map (piece_with f) (items_pieces items)) (item_replaced item)
      ∙ ap (λ ps. item_pieces (item_with f item) ++ ps) (items_replaced items)

  cells_replaced : (columns : List Column) (cells : List (List (Item (List ℕ))))
      → map (piece_with f) (cells_pieces columns cells) ≡ cells_pieces columns (cells_with f cells)
  cells_replaced [] cells = refl
  cells_replaced (column ∷ columns) [] = refl
  cells_replaced (column ∷ columns) (items ∷ cells) =
      let cell : List (Piece (List ℕ)) = between (cell_start column) (items_pieces (map (item_with f) items)) (cell_end column) in
      map-append (piece_with f) (between (cell_start column) (items_pieces items) (cell_end column)) (cells_pieces columns cells)
      ∙ ap (λ ps. ps ++ map (piece_with f) (cells_pieces columns cells))
      (between_replaced (cell_start column) (cell_end column) (items_pieces items) (items_pieces (map (item_with f) items)) (items_replaced items))
      ∙ ap (λ ps. cell ++ ps) (cells_replaced columns cells)

  row_replaced : (start : List ℕ) (frame : Frame) (cells : List (List (Item (List ℕ))))
      → map (piece_with f) (row_pieces start frame cells) ≡ row_pieces start frame (cells_with f cells)
  row_replaced start frame cells =
      between_replaced start (codes "</tr>\n") (cells_pieces frame.columns cells) (cells_pieces frame.columns (cells_with f cells))
      (cells_replaced frame.columns cells)

  caption_replaced : (part : Title (List ℕ)) → map (piece_with f) (caption_pieces part) ≡ caption_pieces (title_with f part)
  caption_replaced (Said words) = refl
  caption_replaced (Named name) = refl
  caption_replaced (Further count) = refl

  captions_replaced : (title : List (Title (List ℕ))) → map (piece_with f) (captions_pieces title) ≡ captions_pieces (map (title_with f) title)
  captions_replaced [] = refl
  captions_replaced (part ∷ title) =
      map-append (piece_with f) (caption_pieces part) (captions_pieces title)
      ∙ ap (λ ps. ps ++ map (piece_with f) (captions_pieces title)) (caption_replaced part)
      ∙ ap (λ ps. caption_pieces (title_with f part) ++ ps) (captions_replaced title)

  label_replaced : (part : Title (List ℕ)) → map (piece_with f) (label_pieces part) ≡ label_pieces (title_with f part)
  label_replaced (Said words) = refl
  label_replaced (Named name) = refl
  label_replaced (Further count) = refl

  labels_replaced : (title : List (Title (List ℕ))) → map (piece_with f) (labels_pieces title) ≡ labels_pieces (map (title_with f) title)
  labels_replaced [] = refl
  labels_replaced (part ∷ title) =
      map-append (piece_with f) (label_pieces part) (labels_pieces title)
      ∙ ap (λ ps. ps ++ map (piece_with f) (labels_pieces title)) (label_replaced part)
      ∙ ap (λ ps. label_pieces (title_with f part) ++ ps) (labels_replaced title)

  start_replaced : (frame : Frame) (title : List (Title (List ℕ)))
      → map (piece_with f) (start_pieces frame title) ≡ start_pieces frame (map (title_with f) title)
  start_replaced frame title =
      let others = map (title_with f) title in
      let class : Piece (List ℕ) = Bytes (class_html frame.class) in
      let end : List (Piece (List ℕ)) = Bytes (heads frame.columns ++ heads_end) ∷ [] in
      let label : List (Piece (List ℕ)) = between box_start (labels_pieces title) box_end in
      let label' : List (Piece (List ℕ)) = between box_start (labels_pieces others) box_end in
      let words : List (Piece (List ℕ)) = between (caption_start frame.is_titled) (captions_pieces title) caption_end in
      let words' : List (Piece (List ℕ)) = between (caption_start frame.is_titled) (captions_pieces others) caption_end in
      map-append (piece_with f) label (class ∷ (words ++ end))
      ∙ ap (λ ps. ps ++ map (piece_with f) (class ∷ (words ++ end)))
      (between_replaced box_start box_end (labels_pieces title) (labels_pieces others) (labels_replaced title))
      ∙ ap (λ ps. label' ++ class ∷ ps)
      (map-append (piece_with f) words end
      ∙ ap (λ ps. ps ++ end)
      (between_replaced (caption_start frame.is_titled) caption_end (captions_pieces title) (captions_pieces others) (captions_replaced title)))

  block_replaced : (block : Block (List ℕ)) → map (piece_with f) (block_pieces block) ≡ block_pieces (block_with f block)
  block_replaced (Head title) = refl
  block_replaced (Start frame title) = start_replaced frame title
  block_replaced (Row frame cells) = row_replaced (codes "<tr>") frame cells
  block_replaced (MarkedRow is_marked frame cells) = row_replaced (marked_start is_marked) frame cells
  block_replaced (LineRow fs line is_marked frame cells) = row_replaced (line_row_start fs line is_marked) frame cells
  block_replaced (Facts frame facts) =
      between_replaced (facts_start frame.class) (codes "</dl>\n") (cells_pieces frame.columns facts) (cells_pieces frame.columns (cells_with f facts))
      (cells_replaced frame.columns facts)
  block_replaced (In element items) =
      between_replaced (element_start element) (element_end element) (items_pieces items) (items_pieces (map (item_with f) items)) (items_replaced items)
  block_replaced (Alone tag) = refl
  block_replaced (SystemStart fs) = refl
  block_replaced (Fixed html) = refl

  pub page_replaced : (page : List (Block (List ℕ))) → map (piece_with f) (page_pieces page) ≡ page_pieces (map (block_with f) page)
  page_replaced [] = refl
  page_replaced (block ∷ page) =
      map-append (piece_with f) (block_pieces block) (page_pieces page)
      ∙ ap (λ ps. ps ++ map (piece_with f) (page_pieces page)) (block_replaced block)
      ∙ ap (λ ps. block_pieces (block_with f block) ++ ps) (page_replaced page)
