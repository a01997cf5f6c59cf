-- A page is made of its pieces.
use Rattle.std.proofs.Common.{◌≡◌, ℕ, List, [], ◌∷◌, ◌++◌, ◌∙◌, ap, refl, sym, codes, cond, drop, length, take, true, false}
use Rattle.std.specs.Fmt.{decimal}
use Rattle.std.specs.Prelude.{nat_le}
use Rattle.std.specs.List.{flat_map}
use Rattle.std.proofs.lemmas.List.{append-nil, append_assoc}
use Rattle.page_html.specs.Amounts.{and_more}
use Rattle.page_html.specs.Escaping.{attribute, escaped}
use Rattle.page_html.specs.Pieces.{code, code_list}
use Rattle.page_html.specs.Blocks.{element_end, element_start, facts_start, system_start, tag_html}
use Rattle.page_html.specs.Head.{head_start, sheet}
use Rattle.page_html.specs.Items.{Item, Own, Text, Code, Digest, Codes, SomeCodes, Line, System, SystemLine, item_html, items_html, own_html}
use Rattle.page_html.specs.Pages.{Block, Head, Start, Row, MarkedRow, LineRow, Facts, In, Alone, SystemStart, Fixed, Piece, Bytes, Shown, Attribute, between, block_html, block_pieces, caption_pieces, captions_pieces, cells_pieces, code_pieces, html, item_pieces, items_pieces, label_pieces, labels_pieces, later_pieces, list_pieces, page_html, page_pieces, piece_html, row_pieces, some_pieces, start_pieces}
use Rattle.page_html.specs.PartPieces.{link_end, link_start, some_codes}
use Rattle.page_html.specs.Tables.{Column, Frame, box, box_end, box_start, caption, caption_end, caption_start, cell_end, cell_start, cells_html, class_html, heads, heads_end, line_row_start, marked_start, row_in, table_start}
use Rattle.page_html.specs.Titles.{Title, Said, Named, Further, caption_html, captions_html, label_html, labels_html}

pub html_append : (some others : List (Piece (List ℕ))) → html (some ++ others) ≡ html some ++ html others
unfolding html
html_append [] others = refl
html_append (piece ∷ some) others =
    ap (λ t. piece_html piece ++ t) (html_append some others) ∙ sym (append_assoc (piece_html piece) (html some) (html others))

alone : (bytes : List ℕ) → bytes ≡ html (Bytes bytes ∷ [])
unfolding html
alone bytes = sym (append-nil bytes)

text_alone : (text : List ℕ) → escaped text ≡ html (Shown text ∷ [])
unfolding html
text_alone text = sym (append-nil (escaped text))

name_alone : (name : List ℕ) → attribute name ≡ html (Attribute name ∷ [])
unfolding html
name_alone name = sym (append-nil (attribute name))

-- between two tags
between_made : (start end bytes : List ℕ) (pieces : List (Piece (List ℕ))) → bytes ≡ html pieces
    → start ++ bytes ++ end ≡ html (between start pieces end)
unfolding html
between_made start end bytes pieces made =
    append_assoc start bytes end ∙ ap (λ t. start ++ (t ++ end)) made ∙ ap (λ t. start ++ (html pieces ++ t)) (alone end)
    ∙ ap (λ t. start ++ t) (sym (html_append pieces (Bytes end ∷ [])))

-- ---- parts
code_made : (text : List ℕ) → code text ≡ html (code_pieces text)
unfolding html
code_made text = refl

later_made : (texts : List (List ℕ)) → flat_map (λ text. codes ", " ++ code text) texts ≡ html (later_pieces texts)
unfolding html
later_made [] = refl
later_made (text ∷ texts) =
    ap (λ t. (codes ", " ++ code text) ++ t) (later_made texts) ∙ append_assoc (codes ", ") (code text) (html (later_pieces texts))
    ∙ ap (λ t. codes ", " ++ t) (ap (λ t. t ++ html (later_pieces texts)) (code_made text) ∙ sym (html_append (code_pieces text) (later_pieces texts)))

list_made : (texts : List (List ℕ)) → code_list texts ≡ html (list_pieces texts)
unfolding html
list_made [] = refl
list_made (text ∷ texts) =
    ap (λ t. code text ++ t) (later_made texts) ∙ ap (λ t. t ++ html (later_pieces texts)) (code_made text)
    ∙ sym (html_append (code_pieces text) (later_pieces texts))

some_made : (most : ℕ) (texts : List (List ℕ)) → some_codes most texts ≡ html (some_pieces most texts)
unfolding html
some_made most texts =
    let more = and_more (length (drop most texts)) in
    let some = take most texts in
    elim (nat_le (length texts) most) as (λ few. cond few (code_list texts) (code_list some ++ more)
    ≡ html (cond few (list_pieces texts) (list_pieces some ++ Bytes more ∷ []))) [
      | true ↦ list_made texts
      | false ↦ ap (λ t. t ++ more) (list_made some) ∙ ap (λ t. html (list_pieces some) ++ t) (alone more)
          ∙ sym (html_append (list_pieces some) (Bytes more ∷ []))
    ]

item_made : (item : Item (List ℕ)) → item_html item ≡ html (item_pieces item)
unfolding html
item_made (Own own) = alone (own_html own)
item_made (Text text) = text_alone text
item_made (Code text) = code_made text
item_made (Digest text) = refl
item_made (Codes texts) = list_made texts
item_made (SomeCodes most texts) = some_made most texts
item_made (Line line) = refl
item_made (System fs name) =
    between_made (codes "<a href=\"#f" ++ decimal fs ++ codes "\">") (codes "</a>") (code name) (code_pieces name) (code_made name)
item_made (SystemLine fs name line) = between_made (link_start fs line) (link_end line) (code name) (code_pieces name) (code_made name)

items_made : (items : List (Item (List ℕ))) → items_html items ≡ html (items_pieces items)
unfolding items_html html
items_made [] = refl
items_made (item ∷ items) =
    ap (λ t. t ++ items_html items) (item_made item) ∙ ap (λ t. html (item_pieces item) ++ t) (items_made items)
    ∙ sym (html_append (item_pieces item) (items_pieces items))

-- ---- rows
cells_made : (columns : List Column) (cells : List (List (Item (List ℕ)))) → cells_html columns cells ≡ html (cells_pieces columns cells)
unfolding cells_html html
cells_made [] cells = refl
cells_made (column ∷ columns) [] = refl
cells_made (column ∷ columns) (items ∷ cells) =
    let cell = between (cell_start column) (items_pieces items) (cell_end column) in
    ap (λ t. t ++ cells_html columns cells) (between_made (cell_start column) (cell_end column) (items_html items) (items_pieces items) (items_made items))
    ∙ ap (λ t. html cell ++ t) (cells_made columns cells) ∙ sym (html_append cell (cells_pieces columns cells))

row_made : (start : List ℕ) (frame : Frame) (cells : List (List (Item (List ℕ)))) → row_in start frame cells ≡ html (row_pieces start frame cells)
row_made start frame cells =
    between_made start (codes "</tr>\n") (cells_html frame.columns cells) (cells_pieces frame.columns cells) (cells_made frame.columns cells)

-- ---- titles
caption_made : (part : Title (List ℕ)) → caption_html part ≡ html (caption_pieces part)
caption_made (Said words) = alone (caption_html (Said words))
caption_made (Named name) = code_made name
caption_made (Further count) = alone (caption_html (Further count))

captions_made : (title : List (Title (List ℕ))) → captions_html title ≡ html (captions_pieces title)
unfolding captions_html html
captions_made [] = refl
captions_made (part ∷ title) =
    ap (λ t. t ++ captions_html title) (caption_made part) ∙ ap (λ t. html (caption_pieces part) ++ t) (captions_made title)
    ∙ sym (html_append (caption_pieces part) (captions_pieces title))

label_made : (part : Title (List ℕ)) → label_html part ≡ html (label_pieces part)
label_made (Said words) = alone (label_html (Said words))
label_made (Named name) = name_alone name
label_made (Further count) = alone (label_html (Further count))

labels_made : (title : List (Title (List ℕ))) → labels_html title ≡ html (labels_pieces title)
unfolding labels_html html
labels_made [] = refl
labels_made (part ∷ title) =
    ap (λ t. t ++ labels_html title) (label_made part) ∙ ap (λ t. html (label_pieces part) ++ t) (labels_made title)
    ∙ sym (html_append (label_pieces part) (labels_pieces title))

start_made : (frame : Frame) (title : List (Title (List ℕ))) → table_start frame title ≡ html (start_pieces frame title)
unfolding html
start_made frame title =
    let label = between box_start (labels_pieces title) box_end in
    let class = class_html frame.class in
    let words = caption frame.is_titled title in
    let said = between (caption_start frame.is_titled) (captions_pieces title) caption_end in
    let columns = heads frame.columns in
    append_assoc (box title ++ class ++ words) columns heads_end ∙ append_assoc (box title ++ class) words (columns ++ heads_end)
    ∙ append_assoc (box title) class (words ++ (columns ++ heads_end))
    ∙ ap (λ t. t ++ (class ++ (words ++ (columns ++ heads_end))))
    (between_made box_start box_end (labels_html title) (labels_pieces title) (labels_made title))
    ∙ ap (λ t. html label ++ (class ++ (t ++ (columns ++ heads_end))))
    (between_made (caption_start frame.is_titled) caption_end (captions_html title) (captions_pieces title) (captions_made title))
    ∙ ap (λ t. html label ++ (class ++ (html said ++ t))) (alone (columns ++ heads_end))
    ∙ ap (λ t. html label ++ (class ++ t)) (sym (html_append said (Bytes (columns ++ heads_end) ∷ [])))
    ∙ sym (html_append label (Bytes class ∷ (said ++ (Bytes (columns ++ heads_end) ∷ []))))

-- ---- a page
head_made : (title : List ℕ) → block_html (Head title) ≡ html (block_pieces (Head title))
unfolding html
head_made title =
    append_assoc head_start (attribute title) sheet ∙ ap (λ t. head_start ++ (attribute title ++ t)) (sym (append-nil sheet))

block_made : (block : Block (List ℕ)) → block_html block ≡ html (block_pieces block)
block_made (Head title) = head_made title
block_made (Start frame title) = start_made frame title
block_made (Row frame cells) = row_made (codes "<tr>") frame cells
block_made (MarkedRow is_marked frame cells) = row_made (marked_start is_marked) frame cells
block_made (LineRow fs line is_marked frame cells) = row_made (line_row_start fs line is_marked) frame cells
block_made (Facts frame facts) =
    between_made (facts_start frame.class) (codes "</dl>\n") (cells_html frame.columns facts) (cells_pieces frame.columns facts) (cells_made frame.columns facts)
block_made (In element items) = between_made (element_start element) (element_end element) (items_html items) (items_pieces items) (items_made items)
block_made (Alone tag) = alone (tag_html tag)
block_made (SystemStart fs) = alone (system_start fs)
block_made (Fixed bytes) = alone bytes

pub page_made : (page : List (Block (List ℕ))) → page_html page ≡ html (page_pieces page)
unfolding page_html html
page_made [] = refl
page_made (block ∷ page) =
    ap (λ t. t ++ page_html page) (block_made block) ∙ ap (λ t. html (block_pieces block) ++ t) (page_made page)
    ∙ sym (html_append (block_pieces block) (page_pieces page))
