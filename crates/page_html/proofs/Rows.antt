-- The cells of a row, with one more, and those of a row whose last cells are empty.
use Rattle.std.proofs.Common.{◌≡◌, ℕ, ◌+◌, ◌<◌, ◌≤◌, ◌++◌, ◌∙◌, List, [], ◌∷◌, ap, arith, drop, get_or, length, map, refl, sym, take}
use Rattle.std.proofs.lemmas.List.{append-nil, append_assoc, get_or-map, length-map, length-take-le, take_all, take_more}
use Rattle.page_html.specs.Items.{Item}
use Rattle.page_html.specs.PrivateTables.{empty_cell, empty_cells}
use Rattle.page_html.specs.Tables.{Column, cell_html, cells_html, filled}

pub cells_none : (page : List ℕ) → page ≡ page ++ cells_html [] []
unfolding cells_html
cells_none page = sym (append-nil page)

cells_append : (columns others : List Column) (cells more : List (List (Item (List ℕ)))) → length columns ≡ length cells
    → cells_html (columns ++ others) (cells ++ more) ≡ cells_html columns cells ++ cells_html others more
unfolding cells_html
cells_append [] others [] more same = refl
cells_append [] others (cell ∷ cells) more same = absurd (omega arith)
cells_append (column ∷ columns) others [] more same = absurd (omega arith)
cells_append (column ∷ columns) others (cell ∷ cells) more same =
    ap (λ t. cell_html column cell ++ t) (cells_append columns others cells more (omega arith))
    ∙ sym (append_assoc (cell_html column cell) (cells_html columns cells) (cells_html others more))

one_cell : (column : Column) (cell : List (Item (List ℕ))) → cells_html (column ∷ []) (cell ∷ []) ≡ cell_html column cell
unfolding cells_html
one_cell column cell = append-nil (cell_html column cell)

pub cells_more : (columns : List Column) (cells : List (List (Item (List ℕ)))) (i : ℕ) (d : Column) (e : List (Item (List ℕ))) (start now next : List ℕ)
    → i < length columns → length cells ≡ length columns
    → now ≡ start ++ cells_html (take i columns) (take i cells) → next ≡ now ++ cell_html (get_or columns i d) (get_or cells i e)
    → next ≡ start ++ cells_html (take (i + 1) columns) (take (i + 1) cells)
cells_more columns cells i d e start now next within same before added =
    let column = get_or columns i d in
    let cell = get_or cells i e in
    let firsts = take i columns in
    let first_cells = take i cells in
    let many : length firsts ≡ length first_cells = length-take-le i columns (omega arith) ∙ sym (length-take-le i cells (omega arith)) in
    added ∙ ap (λ t. t ++ cell_html column cell) before ∙ append_assoc start (cells_html firsts first_cells) (cell_html column cell)
    ∙ ap (λ t. start ++ (cells_html firsts first_cells ++ t)) (sym (one_cell column cell))
    ∙ ap (λ t. start ++ t) (sym (cells_append firsts (column ∷ []) first_cells (cell ∷ []) many))
    ∙ ap (λ cs. start ++ cells_html cs (first_cells ++ cell ∷ [])) (sym (take_more columns i d within))
    ∙ ap (λ cs. start ++ cells_html (take (i + 1) columns) cs) (sym (take_more cells i e (omega arith)))

-- the cells of all, by value
pub cells_all : {C X : Type 0} (column_of : C → Column) (value : X → List (Item (List ℕ))) (columns : List C) (cells : List X) (i : ℕ) (start now : List ℕ)
    → length cells ≡ length columns → i ≡ length cells
    → now ≡ start ++ cells_html (take i (map column_of columns)) (take i (map value cells))
    → now ≡ start ++ cells_html (map column_of columns) (map value cells)
cells_all column_of value columns cells i start now same all so_far =
    let many = length-map cells value in
    let columns_many = length-map columns column_of in
    so_far ∙ ap (λ cs. start ++ cells_html cs (take i (map value cells))) (take_all i (map column_of columns) (omega arith))
    ∙ ap (λ cs. start ++ cells_html (map column_of columns) cs) (take_all i (map value cells) (omega arith))

-- one more of cells that are lent
pub lent_more : {C X : Type 0} (column_of : C → Column) (value : X → List (Item (List ℕ))) (columns : List C) (cells : List X) (i : ℕ) (d : C) (x : X)
    (start now next : List ℕ) → length cells ≡ length columns → i < length cells → x ≡ get_or cells i x
    → now ≡ start ++ cells_html (take i (map column_of columns)) (take i (map value cells))
    → next ≡ now ++ cell_html (column_of (get_or columns i d)) (value x)
    → next ≡ start ++ cells_html (take (i + 1) (map column_of columns)) (take (i + 1) (map value cells))
lent_more column_of value columns cells i d x start now next same within is before added =
    let e = column_of d in
    let read : value x ≡ get_or (map value cells) i [] = ap value is ∙ sym (get_or-map value cells i x [] within) in
    let column : column_of (get_or columns i d) ≡ get_or (map column_of columns) i e =
    sym (get_or-map column_of columns i d e (omega arith)) in
    let many : i < length (map column_of columns) = (let more = length-map columns column_of in omega arith) in
    let as_many : length (map value cells) ≡ length (map column_of columns) =
    length-map cells value ∙ same ∙ sym (length-map columns column_of) in
    cells_more (map column_of columns) (map value cells) i e [] start now next many as_many before
    (added ∙ ap (λ cell. now ++ cell_html (column_of (get_or columns i d)) cell) read
    ∙ ap (λ one. now ++ cell_html one (get_or (map value cells) i [])) column)

-- ---- a row whose last cells are empty
none_filled : (columns : List Column) → empty_cells columns ≡ cells_html columns (filled columns [])
unfolding cells_html empty_cells
none_filled [] = refl
none_filled (column ∷ columns) = ap (λ t. empty_cell column ++ t) (none_filled columns)

some_filled : {C X : Type 0} (column_of : C → Column) (value : X → List (Item (List ℕ))) (columns : List C) (cells : List X) → length cells ≤ length columns
    → cells_html (map column_of (take (length cells) columns)) (map value cells) ++ empty_cells (map column_of (drop (length cells) columns))
    ≡ cells_html (map column_of columns) (filled (map column_of columns) (map value cells))
unfolding cells_html
some_filled column_of value columns [] within = none_filled (map column_of columns)
some_filled column_of value [] (cell ∷ cells) within = absurd (omega arith)
some_filled column_of value (column ∷ columns) (cell ∷ cells) within =
    append_assoc (cell_html (column_of column) (value cell)) (cells_html (map column_of (take (length cells) columns)) (map value cells))
    (empty_cells (map column_of (drop (length cells) columns)))
    ∙ ap (λ t. cell_html (column_of column) (value cell) ++ t) (some_filled column_of value columns cells (omega arith))

pub filled_all : {C X : Type 0} (column_of : C → Column) (value : X → List (Item (List ℕ))) (columns : List C) (cells : List X) (first rest : List C)
    → length cells ≤ length columns → first ≡ take (length cells) columns → rest ≡ drop (length cells) columns
    → cells_html (map column_of first) (map value cells) ++ empty_cells (map column_of rest)
    ≡ cells_html (map column_of columns) (filled (map column_of columns) (map value cells))
filled_all column_of value columns cells first rest within front back =
    ap (λ some. cells_html (map column_of some) (map value cells) ++ empty_cells (map column_of rest)) front
    ∙ ap (λ some. cells_html (map column_of (take (length cells) columns)) (map value cells) ++ empty_cells (map column_of some)) back
    ∙ some_filled column_of value columns cells within
