-- Parts that have no picture.
use Rattle.std.proofs.Common.{◌≡◌, ℕ, List, [], ◌∷◌, ◌++◌, Bool, true, false, map, refl}
use Rattle.std.specs.Prelude.{if◌then◌else◌}
use Rattle.std.specs.List.{flat_map}
use Rattle.std.proofs.lemmas.Bool.{false≢true}
use Rattle.page_html.specs.Items.{Drawn, Item, Own}
use Rattle.page_html.specs.Pictures.{CellsHaveNoHtmlBut, HasNoHtmlBut, HaveNoHtmlBut}

abbrev pub has_no_picture : Item (List ℕ) → Bool
has_no_picture (Own (Drawn image)) = false
has_no_picture item = true

abbrev pub have_no_picture : List (Item (List ℕ)) → Bool
have_no_picture [] = true
have_no_picture (item ∷ items) = if has_no_picture item then have_no_picture items else false

abbrev pub cells_have_no_picture : List (List (Item (List ℕ))) → Bool
cells_have_no_picture [] = true
cells_have_no_picture (items ∷ cells) = if have_no_picture items then cells_have_no_picture cells else false

pub record IsPlain (item : Item (List ℕ)) : Type 0 where
  pub is : has_no_picture item ≡ true

pub record ArePlain (items : List (Item (List ℕ))) : Type 0 where
  pub are : have_no_picture items ≡ true

pub record ArePlainCells (cells : List (List (Item (List ℕ)))) : Type 0 where
  pub are : cells_have_no_picture cells ≡ true

-- ---- tests
pub both : (one other : Bool) → one ≡ true → other ≡ true → (if one then other else false) ≡ true
both true other is so = so
both false other is so = is

pub first_of : (one other : Bool) → (if one then other else false) ≡ true → one ≡ true
first_of true other is = refl
first_of false other is = is

pub second_of : (one other : Bool) → (if one then other else false) ≡ true → other ≡ true
second_of true other is = is
second_of false other is = absurd (false≢true is)

-- ---- what is plain
pub part : (item : Item (List ℕ)) → has_no_picture item ≡ true → IsPlain item
part item is = record { is = is }

pub parts : (items : List (Item (List ℕ))) → have_no_picture items ≡ true → ArePlain items
parts items are = record { are = are }

pub some_cells : (cells : List (List (Item (List ℕ)))) → cells_have_no_picture cells ≡ true → ArePlainCells cells
some_cells cells are = record { are = are }

pub plain_if : (is : Bool) {one other : Item (List ℕ)} → IsPlain one → IsPlain other → IsPlain (if is then one else other)
plain_if true own its = own
plain_if false own its = its

pub either_plain : (is : Bool) {some others : List (Item (List ℕ))} → ArePlain some → ArePlain others → ArePlain (if is then some else others)
either_plain true own its = own
either_plain false own its = its

pub plain_cons : {item : Item (List ℕ)} {items : List (Item (List ℕ))} → IsPlain item → ArePlain items → ArePlain (item ∷ items)
plain_cons {item = item} {items = items} own its = record { are = both (has_no_picture item) (have_no_picture items) own.is its.are }

appended : (some others : List (Item (List ℕ))) → have_no_picture some ≡ true → have_no_picture others ≡ true → have_no_picture (some ++ others) ≡ true
appended [] others own its = its
appended (item ∷ some) others own its =
    both (has_no_picture item) (have_no_picture (some ++ others)) (first_of (has_no_picture item) (have_no_picture some) own)
    (appended some others (second_of (has_no_picture item) (have_no_picture some) own) its)

pub plain_append : {some others : List (Item (List ℕ))} → ArePlain some → ArePlain others → ArePlain (some ++ others)
plain_append {some = some} {others = others} own its = record { are = appended some others own.are its.are }

pub plain_each : {X : Type 0} (items : X → List (Item (List ℕ))) → ((x : X) → ArePlain (items x)) → (xs : List X) → ArePlain (flat_map items xs)
plain_each items plain [] = record { are = refl }
plain_each items plain (x ∷ xs) = plain_append (plain x) (plain_each items plain xs)

pub plain_map : {X : Type 0} (item_of : X → Item (List ℕ)) → ((x : X) → IsPlain (item_of x)) → (xs : List X) → ArePlain (map item_of xs)
plain_map item_of plain [] = record { are = refl }
plain_map item_of plain (x ∷ xs) = plain_cons (plain x) (plain_map item_of plain xs)

pub cells_cons : {items : List (Item (List ℕ))} {cells : List (List (Item (List ℕ)))} → ArePlain items → ArePlainCells cells → ArePlainCells (items ∷ cells)
cells_cons {items = items} {cells = cells} own its = record { are = both (have_no_picture items) (cells_have_no_picture cells) own.are its.are }

-- ---- in parts that have no picture nothing stands as HTML
module _ (IsImage : List ℕ → Type 0) where
  pub item_alone : (item : Item (List ℕ)) → has_no_picture item ≡ true → HasNoHtmlBut IsImage item
  item_alone (Own (Drawn image)) is = absurd (false≢true is)
  item_alone item is = tt

  pub items_alone : (items : List (Item (List ℕ))) → have_no_picture items ≡ true → HaveNoHtmlBut IsImage items
  items_alone [] are = tt
  items_alone (item ∷ items) are =
      (item_alone item (first_of (has_no_picture item) (have_no_picture items) are), items_alone items (second_of (has_no_picture item) (have_no_picture items) are))

  pub cells_alone : (cells : List (List (Item (List ℕ)))) → cells_have_no_picture cells ≡ true → CellsHaveNoHtmlBut IsImage cells
  cells_alone [] are = tt
  cells_alone (items ∷ cells) are = (
    items_alone items (first_of (have_no_picture items) (cells_have_no_picture cells) are),
    cells_alone cells (second_of (have_no_picture items) (cells_have_no_picture cells) are),
  )
