-- What stands as HTML in the parts of a page. (this project's own)
use Rattle.std.specs.Prelude.{ℕ, List}
use Rattle.std.specs.List.{AllByRecursion}
use Rattle.page_html.specs.Items.{Drawn, Item, Own}

-- what stands as HTML in a part, if anything does, is one of some images: only `Drawn` is not escaped
abbrev pub HasNoHtmlBut : (List ℕ → Type 0) → Item (List ℕ) → Type 0
HasNoHtmlBut IsImage (Own (Drawn image)) = IsImage image
HasNoHtmlBut IsImage item = Unit {0}

-- the same of some parts
abbrev pub HaveNoHtmlBut : (List ℕ → Type 0) → List (Item (List ℕ)) → Type 0
HaveNoHtmlBut IsImage items = AllByRecursion (HasNoHtmlBut IsImage) items

-- and of the parts of cells
abbrev pub CellsHaveNoHtmlBut : (List ℕ → Type 0) → List (List (Item (List ℕ))) → Type 0
CellsHaveNoHtmlBut IsImage cells = AllByRecursion (HaveNoHtmlBut IsImage) cells
