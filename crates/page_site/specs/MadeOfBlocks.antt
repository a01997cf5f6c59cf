-- What a page is made of. (this project's own)
use Rattle.std.specs.Prelude.{◌≡◌, ◌⊎◌, ℕ, Contains, List, [], ◌∷◌}
use Rattle.std.specs.List.{AllByRecursion}
use Rattle.desk_core.specs.declared.head.Head.{Head as Revision}
use Rattle.desk_core.specs.declared.proposal.Proposal.{Proposal}
use Rattle.page_html.specs.Pages.{Alone, Block, Facts, Fixed, Head, In, LineRow, MarkedRow, Row, Start, SystemStart, page_html}
use Rattle.page_html.specs.Pictures.{CellsHaveNoHtmlBut, HaveNoHtmlBut}
use Rattle.page_lists.specs.Reading.{how_to_read}
use Rattle.page_maps.specs.Drawing.{small_map}
use Rattle.page_maps.specs.Figures.{figure_image}
use Rattle.page_maps.specs.Shapes.{shapes}
use Rattle.page_maps.specs.declared.drawn_maps.DrawnMap.{DrawnMap}
use Rattle.page_summary.specs.Header.{links}
use Rattle.page_summary.specs.Overview.{legend}
use Rattle.page_site.specs.Page.{IsPageOf}

-- an image of a network, of its cells, and of how many of its addresses are of which class: none of these has a text of a site
pub record IsImageBy (image_of : DrawnMap → List ℕ) (image : List ℕ) : Type 0 where
  pub drawn : DrawnMap
  pub is : image ≡ image_of drawn

-- a picture is a large map with its caption, or a small map
abbrev pub IsPicture : List ℕ → Type 0
IsPicture image = IsImageBy figure_image image ⊎ IsImageBy small_map image

-- the only texts that stand as HTML: the shapes of maps, the links to the parts of the page, the key of the maps, and how the page is read
abbrev pub fixed_texts : List (List ℕ)
fixed_texts = shapes ∷ links ∷ legend ∷ how_to_read ∷ []

-- What stands as HTML in a block is one of the fixed texts or a picture. All other texts that a block is given are escaped.
abbrev pub HasNoOtherHtml : Block (List ℕ) → Type 0
HasNoOtherHtml (Head title) = Unit {0}
HasNoOtherHtml (Start frame title) = Unit {0}
HasNoOtherHtml (Row frame cells) = CellsHaveNoHtmlBut IsPicture cells
HasNoOtherHtml (MarkedRow is_marked frame cells) = CellsHaveNoHtmlBut IsPicture cells
HasNoOtherHtml (LineRow fs line is_marked frame cells) = CellsHaveNoHtmlBut IsPicture cells
HasNoOtherHtml (Facts frame facts) = CellsHaveNoHtmlBut IsPicture facts
HasNoOtherHtml (In element items) = HaveNoHtmlBut IsPicture items
HasNoOtherHtml (Alone tag) = Unit {0}
HasNoOtherHtml (SystemStart fs) = Unit {0}
HasNoOtherHtml (Fixed html) = Contains fixed_texts html

-- A text is that of blocks in which no other HTML stands.
pub record IsMadeOfBlocks (text : List ℕ) : Type 0 where
  pub blocks : List (Block (List ℕ))
  pub are : text ≡ page_html blocks
  pub own : AllByRecursion HasNoOtherHtml blocks

-- Every page that is printed is made of blocks. So it is made of the page's own bytes and of a site's texts, which are escaped.
abbrev pub PrintedPagesAreMadeOfBlocks : Type 0
PrintedPagesAreMadeOfBlocks =
    (heads : List Revision) (proposals : List Proposal) (word page : List ℕ) → IsPageOf heads proposals word page → IsMadeOfBlocks page
