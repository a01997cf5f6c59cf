-- The path of grounds has just the cells that are meant.
use Rattle.std.proofs.Common.{◌≡◌, ℕ, zero, suc, ◌+◌, ◌*◌, ◌/◌, ◌%◌, ◌<◌, ◌∙◌, ◌&&◌, Bool, true, false, List, [], ◌∷◌, ap, append-nil, arith, cond, drop, eqb, get_or, inl, inr, leb, length, ltb, refl, sym}
use Rattle.std.specs.List.{count_by, flat_map, range_with_len, sum_by}
use Rattle.std.specs.Prelude.{◌≤◌, All, not}
use Rattle.std.proofs.lemmas.Bool.{and_from, and_left, and_right, cases_Bool, cases_lt, cases_eq, cond-false, cond-true, le-leb, lt-ltb, ne_eqb, eq-eqb, le-ltb, lt-leb, true≢false}
use Rattle.std.proofs.lemmas.List.{get_or-drop, get_or-take, length-drop, length-take}
use Rattle.std.proofs.lemmas.List.Elements.{All-append, All-cons, All-get_or, All-nil}
use Rattle.std.proofs.lemmas.List.FromFn.{get_or-map-range_with_len, length-map-range_with_len}
use Rattle.std.proofs.lemmas.List.Sums.{AllPass-from_list_all}
use Rattle.page_maps.specs.Grounds.{GroundsHaveJustTheCells, IsInside, Rectangle, has_cell, is_from, rectangle_text}
use Rattle.page_maps.specs.Paths.{begins_at, ground_path, is_meant, is_whole, length_from, piece_at, pieces, row_of, row_path, whole_at, whole_rows}
use Rattle.page_maps.proofs.Ends.{at_most_length}
use Rattle.page_maps.proofs.Spans.{covered, covers, not_covered, start, start_le, start_meant}
use Rattle.page_maps.proofs.Summed.{at_one, count_in_each, no_value, one_value, same_sums, same_texts, text_of_each}

-- the rectangles of whole rows, of pieces, and of a row
abbrev whole_rectangle : List Bool → ℕ → Rectangle
whole_rectangle wholes y = record { left = 0; top = y; width = 16; height = length_from wholes y }

abbrev wholes_at : List Bool → ℕ → List Rectangle
wholes_at wholes y = cond (begins_at wholes y) (whole_rectangle wholes y ∷ []) []

abbrev piece_rectangle : List Bool → ℕ → ℕ → Rectangle
piece_rectangle row y x = record { left = x; top = y; width = length_from row x; height = 1 }

abbrev pieces_at : List Bool → ℕ → ℕ → List Rectangle
pieces_at row y x = cond (begins_at row x) (piece_rectangle row y x ∷ []) []

abbrev row_pieces : List Bool → ℕ → List Rectangle
row_pieces row y = flat_map (pieces_at row y) (range_with_len 0 16)

abbrev row_rectangles : List Bool → List Bool → ℕ → List Rectangle
row_rectangles which wholes y = cond (is_whole (row_of which y)) (wholes_at wholes y) (row_pieces (row_of which y) y)

abbrev all_rectangles : List Bool → List Rectangle
all_rectangles which = flat_map (row_rectangles which (whole_rows which)) (range_with_len 0 16)

-- the text of one that may be there
text_if : (b : Bool) (one : Rectangle) → flat_map rectangle_text (cond b (one ∷ []) []) ≡ cond b (rectangle_text one) []
text_if true one = append-nil (rectangle_text one)
text_if false one = refl

text_of_pieces : (row : List Bool) (y : ℕ) → flat_map rectangle_text (row_pieces row y) ≡ pieces row y
unfolding pieces
text_of_pieces row y =
    text_of_each rectangle_text (pieces_at row y) (range_with_len 0 16)
    ∙ same_texts (λ x. flat_map rectangle_text (pieces_at row y x)) (piece_at row y) 0 16 (λ x from to. text_if (begins_at row x) (piece_rectangle row y x))

text_of_row : (which wholes : List Bool) (y : ℕ) → flat_map rectangle_text (row_rectangles which wholes y) ≡ row_path which wholes y
text_of_row which wholes y = by (is_whole (row_of which y))
  where
    by : (b : Bool) → flat_map rectangle_text (cond b (wholes_at wholes y) (row_pieces (row_of which y) y)) ≡ cond b (whole_at wholes y) (pieces (row_of which y) y)
    by true = text_if (begins_at wholes y) (whole_rectangle wholes y)
    by false = text_of_pieces (row_of which y) y

text_of_all : (which : List Bool) → ground_path which ≡ flat_map rectangle_text (all_rectangles which)
unfolding ground_path
text_of_all which =
    sym (text_of_each rectangle_text (row_rectangles which (whole_rows which)) (range_with_len 0 16)
    ∙ same_texts (λ y. flat_map rectangle_text (row_rectangles which (whole_rows which) y)) (row_path which (whole_rows which)) 0 16 (λ y from to. text_of_row which (whole_rows which) y))

-- how many have a cell of one that may be there
count_if : (b : Bool) (test : Rectangle → Bool) (one : Rectangle) → count_by test (cond b (one ∷ []) []) ≡ cond (b && test one) 1 0
count_if true test one = by (test one)
  where
    by : (t : Bool) → 0 + cond t 1 0 ≡ cond t 1 0
    by true = refl
    by false = refl
count_if false test one = refl

and_true : (b : Bool) → (b && true) ≡ b
and_true true = refl
and_true false = refl

from_own : (first number : ℕ) → first ≡ number → is_from first 1 number ≡ true
from_own first number same = and_from (leb first number) (ltb number (first + 1)) (le-leb first number (omega arith)) (lt-ltb number (first + 1) (omega arith))

from_other : (first number : ℕ) → (first ≡ number → ⊥) → is_from first 1 number ≡ false
from_other first number apart =
    elim (cases_lt first number) as (λ _. is_from first 1 number ≡ false) [
      | inl less ↦ and_right (leb first number) (ltb number (first + 1)) (le-ltb number (first + 1) (omega arith))
      | inr more ↦ and_left (leb first number) (ltb number (first + 1)) (lt-leb first number (let differ = apart in omega arith))
    ]

-- all of a whole row are meant
of_whole : (row : List Bool) (x : ℕ) → is_whole row ≡ true → x < length row → is_meant row x ≡ true
of_whole row x whole within = All-get_or (λ (is : Bool). is ≡ true) row x false within (AllPass-from_list_all (λ is. is) row whole)

whole_rows_at : (which : List Bool) (y : ℕ) → y < 16 → is_meant (whole_rows which) y ≡ is_whole (row_of which y)
unfolding whole_rows
whole_rows_at which y few = get_or-map-range_with_len (λ y. is_whole (row_of which y)) 0 16 y y false few (omega arith)

many_rows : (which : List Bool) → length (whole_rows which) ≡ 16
unfolding whole_rows
many_rows which = length-map-range_with_len (λ y. is_whole (row_of which y)) 0 16

row_length : (which : List Bool) (y : ℕ) → length which ≡ 256 → y < 16 → length (row_of which y) ≡ 16
row_length which y long few =
    let rest = length-drop (16 * y) which in
    let own = length-take 16 (drop (16 * y) which) in
    omega arith

-- each rectangle lies inside the map
all_if : (b : Bool) (one : Rectangle) → IsInside one → All IsInside (cond b (one ∷ []) [])
all_if true one is = All-cons IsInside one [] is (All-nil IsInside)
all_if false one is = All-nil IsInside

all_of_each : (of : ℕ → List Rectangle) (a n : ℕ) → ((k : ℕ) → a ≤ k → k < a + n → All IsInside (of k)) → All IsInside (flat_map of (range_with_len a n))
all_of_each of a zero each = All-nil IsInside
all_of_each of a (suc n) each =
    All-append IsInside (of a) (flat_map of (range_with_len (a + 1) n)) (each a (omega arith) (omega arith))
    (all_of_each of (a + 1) n (λ k from to. each k (omega arith) (omega arith)))

within_length : (which : List Bool) (place : ℕ) → place < length which → place + length_from which place ≤ length which
within_length which place within =
    let rest = length-drop place which in
    let most = at_most_length not (drop place which) in
    omega arith

pieces_inside : (row : List Bool) (y : ℕ) → length row ≡ 16 → y < 16 → All IsInside (row_pieces row y)
pieces_inside row y size few =
    all_of_each (pieces_at row y) 0 16
    (λ x from to. all_if (begins_at row x) (piece_rectangle row y x) (let most = within_length row x (omega arith) in (omega arith, omega arith)))

row_inside : (which : List Bool) (y : ℕ) → length which ≡ 256 → y < 16 → All IsInside (row_rectangles which (whole_rows which) y)
row_inside which y long few = by (is_whole (row_of which y))
  where
    by : (b : Bool) → All IsInside (cond b (wholes_at (whole_rows which) y) (row_pieces (row_of which y) y))
    by true =
        let many = many_rows which in
        let most = within_length (whole_rows which) y (omega arith) in
        all_if (begins_at (whole_rows which) y) (whole_rectangle (whole_rows which) y) (omega arith, omega arith)
    by false = pieces_inside (row_of which y) y (row_length which y long few) few

all_inside : (which : List Bool) → length which ≡ 256 → All IsInside (all_rectangles which)
all_inside which long = all_of_each (row_rectangles which (whole_rows which)) 0 16 (λ y from to. row_inside which y long to)

module _ (which : List Bool) (long : length which ≡ 256) (cell : ℕ) (within : cell < 256) where
  abbrev cx : ℕ
  cx = cell % 16

  abbrev cy : ℕ
  cy = cell / 16

  abbrev has : Rectangle → Bool
  has = has_cell cell

  few_x : cx < 16
  few_x = omega arith

  few_y : cy < 16
  few_y = omega arith

  cell_of_row : is_meant (row_of which cy) cx ≡ is_meant which cell
  cell_of_row =
      let at : 16 * cy + cx ≡ cell = omega arith in
      get_or-take 16 (drop (16 * cy) which) cx false few_x ∙ get_or-drop (16 * cy) which cx false ∙ ap (λ n. get_or which n false) at

  whole_count : (wholes : List Bool) (y : ℕ) → count_by has (wholes_at wholes y) ≡ cond (covers wholes y cy) 1 0
  whole_count wholes y =
      let all_x : is_from 0 16 cx ≡ true = and_from (leb 0 cx) (ltb cx (0 + 16)) (le-leb 0 cx (omega arith)) (lt-ltb cx (0 + 16) few_x) in
      count_if (begins_at wholes y) has (whole_rectangle wholes y) ∙ ap (λ b. cond (begins_at wholes y && (b && is_from y (length_from wholes y) cy)) 1 0) all_x

  piece_here : (row : List Bool) (y x : ℕ) → y ≡ cy → count_by has (pieces_at row y x) ≡ cond (covers row x cx) 1 0
  piece_here row y x same =
      count_if (begins_at row x) has (piece_rectangle row y x)
      ∙ ap (λ b. cond (begins_at row x && (is_from x (length_from row x) cx && b)) 1 0) (from_own y cy same)
      ∙ ap (λ b. cond (begins_at row x && b) 1 0) (and_true (is_from x (length_from row x) cx))

  piece_elsewhere : (row : List Bool) (y x : ℕ) → (y ≡ cy → ⊥) → count_by has (pieces_at row y x) ≡ 0
  piece_elsewhere row y x apart =
      count_if (begins_at row x) has (piece_rectangle row y x)
      ∙ ap (λ b. cond b 1 0) (and_right (begins_at row x) (is_from x (length_from row x) cx && is_from y 1 cy) (and_right (is_from x (length_from row x) cx) (is_from y 1 cy) (from_other y cy apart)))

  pieces_elsewhere : (row : List Bool) (y : ℕ) → (y ≡ cy → ⊥) → count_by has (row_pieces row y) ≡ 0
  pieces_elsewhere row y apart =
      count_in_each has (pieces_at row y) (range_with_len 0 16) ∙ no_value (λ x. count_by has (pieces_at row y x)) 0 16 (λ x from to. piece_elsewhere row y x apart)

  pieces_here : (row : List Bool) (y : ℕ) → y ≡ cy → length row ≡ 16 → count_by has (row_pieces row y) ≡ cond (is_meant row cx) 1 0
  pieces_here row y same size =
      let few = few_x in
      count_in_each has (pieces_at row y) (range_with_len 0 16)
      ∙ elim (cases_Bool (is_meant row cx)) as (λ _. sum_by (λ x. count_by has (pieces_at row y x)) (range_with_len 0 16) ≡ cond (is_meant row cx) 1 0) [
        | inl meant ↦
            let le = start_le row cx in
            same_sums (λ x. count_by has (pieces_at row y x)) (at_one (start row cx) 1) 0 16
            (λ x from to. piece_here row y x same ∙ ap (λ b. cond b 1 0) (covered row x cx (omega arith) meant))
            ∙ one_value (start row cx) 1 0 16 (omega arith) (omega arith) ∙ sym (cond-true (is_meant row cx) 1 0 meant)
        | inr none ↦
            no_value (λ x. count_by has (pieces_at row y x)) 0 16 (λ x from to. piece_here row y x same ∙ ap (λ b. cond b 1 0) (not_covered row x cx none))
            ∙ sym (cond-false (is_meant row cx) 1 0 none)
      ]

  abbrev rows : List Bool
  rows = whole_rows which

  if_whole : (y : ℕ) → is_whole (row_of which y) ≡ true → count_by has (row_rectangles which rows y) ≡ cond (covers rows y cy) 1 0
  if_whole y whole = ap (count_by has) (cond-true (is_whole (row_of which y)) (wholes_at rows y) (row_pieces (row_of which y) y) whole) ∙ whole_count rows y

  if_not : (y : ℕ) → is_whole (row_of which y) ≡ false → count_by has (row_rectangles which rows y) ≡ count_by has (row_pieces (row_of which y) y)
  if_not y not_whole = ap (count_by has) (cond-false (is_whole (row_of which y)) (wholes_at rows y) (row_pieces (row_of which y) y) not_whole)

  -- a cell of a whole row is in the piece of whole rows
  in_whole : is_whole (row_of which cy) ≡ true → (y : ℕ) → y < 16 → count_by has (row_rectangles which rows y) ≡ at_one (start rows cy) 1 y
  in_whole whole y few =
      let meant : is_meant rows cy ≡ true = whole_rows_at which cy few_y ∙ whole in
      let size = many_rows which in
      let low = few_y in
      elim (cases_Bool (is_whole (row_of which y))) as (λ _. count_by has (row_rectangles which rows y) ≡ at_one (start rows cy) 1 y) [
        | inl own ↦ if_whole y own ∙ ap (λ b. cond b 1 0) (covered rows y cy (omega arith) meant)
        | inr none ↦
            if_not y none
            ∙ pieces_elsewhere (row_of which y) y (λ same. true≢false (sym whole ∙ ap (λ n. is_whole (row_of which n)) (sym same) ∙ none))
            ∙ sym (cond-false (eqb y (start rows cy)) 1 0
            (ne_eqb y (start rows cy) (λ same. true≢false (sym (start_meant rows cy meant) ∙ ap (is_meant rows) (sym same) ∙ whole_rows_at which y few ∙ none))))
      ]

  -- one of another row is in a piece of it, if it is meant
  in_piece : is_whole (row_of which cy) ≡ false → (y : ℕ) → y < 16 → count_by has (row_rectangles which rows y) ≡ at_one cy (cond (is_meant which cell) 1 0) y
  in_piece not_whole y few =
      let none : is_meant rows cy ≡ false = whole_rows_at which cy few_y ∙ not_whole in
      elim (cases_Bool (is_whole (row_of which y))) as (λ _. count_by has (row_rectangles which rows y) ≡ at_one cy (cond (is_meant which cell) 1 0) y) [
        | inl own ↦
            if_whole y own ∙ ap (λ b. cond b 1 0) (not_covered rows y cy none)
            ∙ sym (cond-false (eqb y cy) (cond (is_meant which cell) 1 0) 0 (ne_eqb y cy (λ same. true≢false (sym own ∙ ap (λ n. is_whole (row_of which n)) same ∙ not_whole))))
        | inr own ↦
            elim (cases_eq y cy) as (λ _. count_by has (row_rectangles which rows y) ≡ at_one cy (cond (is_meant which cell) 1 0) y) [
              | inl same ↦
                  if_not y own ∙ pieces_here (row_of which y) y same (row_length which y long few)
                  ∙ ap (λ b. cond b 1 0) (ap (λ n. is_meant (row_of which n) cx) same ∙ cell_of_row)
                  ∙ sym (cond-true (eqb y cy) (cond (is_meant which cell) 1 0) 0 (eq-eqb y cy same))
              | inr apart ↦
                  if_not y own ∙ pieces_elsewhere (row_of which y) y apart ∙ sym (cond-false (eqb y cy) (cond (is_meant which cell) 1 0) 0 (ne_eqb y cy apart))
            ]
      ]

  once : count_by has (all_rectangles which) ≡ cond (is_meant which cell) 1 0
  once =
      count_in_each has (row_rectangles which rows) (range_with_len 0 16)
      ∙ elim (cases_Bool (is_whole (row_of which cy))) as (λ _. sum_by (λ y. count_by has (row_rectangles which rows y)) (range_with_len 0 16) ≡ cond (is_meant which cell) 1 0) [
        | inl whole ↦
            let le = start_le rows cy in
            let few = few_y in
            let low = few_x in
            let size = row_length which cy long few_y in
            let meant : is_meant which cell ≡ true = sym cell_of_row ∙ of_whole (row_of which cy) cx whole (omega arith) in
            same_sums (λ y. count_by has (row_rectangles which rows y)) (at_one (start rows cy) 1) 0 16 (λ y from to. in_whole whole y to)
            ∙ one_value (start rows cy) 1 0 16 (omega arith) (omega arith) ∙ sym (cond-true (is_meant which cell) 1 0 meant)
        | inr none ↦
            let few = few_y in
            same_sums (λ y. count_by has (row_rectangles which rows y)) (at_one cy (cond (is_meant which cell) 1 0)) 0 16 (λ y from to. in_piece none y to)
            ∙ one_value cy (cond (is_meant which cell) 1 0) 0 16 (omega arith) (omega arith)
      ]

pub grounds_have_just_the_cells : GroundsHaveJustTheCells
grounds_have_just_the_cells which long = record { rectangles = all_rectangles which; inside = all_inside which long; text = text_of_all which; cells = once which long }
