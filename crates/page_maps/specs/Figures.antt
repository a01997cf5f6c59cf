-- The maps of a part of the page. (this project's own, over HTML)
use Rattle.std.specs.Prelude.{◌≡◌, ℕ, ◌==◌, ◌&&◌, ◌||◌, List, [], ◌∷◌, ◌++◌, codes, count_by, drop, length, map, take, if◌then◌else◌}
use Rattle.std.specs.List.{flat_map}
use Rattle.desk_text.specs.Network.{Block, block_size}
use Rattle.desk_who.specs.Runs.{Run}
use Rattle.page_data.specs.Counts.{granted_of}
use Rattle.page_data.specs.declared.class.Class.{Class}
use Rattle.page_maps.specs.Maps.{AreMapsFrom, fixed_maps, maps_with_fixed}
use Rattle.page_html.specs.Blocks.{element_html, tag_html}
use Rattle.page_html.specs.Images.{image_html}
use Rattle.page_html.specs.Items.{Item, Drawn, Nothing, Own, PartOf, Plural, Words, items_html}
use Rattle.page_html.specs.declared.blocks.Element.TheVariants.{Cut, Figure}
use Rattle.page_html.specs.declared.blocks.Tag.TheVariants.{MapsEnd, MapsStart}
use Rattle.page_maps.specs.Drawing.{large_map, network_item, small_map}
use Rattle.page_maps.specs.DrawnMaps.{AreDrawnFrom}
use Rattle.page_maps.specs.declared.drawn_maps.DrawnMap.{DrawnMap}
use Rattle.page_maps.specs.declared.figures.FixedMaps.{FixedMaps}

-- what a network is called below its map
abbrev pub name_item : Block → Item (List ℕ)
name_item network = if network.prefix == 0 then Own (Words (codes "all of IPv4")) else network_item network

-- how many of its addresses may mount something
abbrev pub caption : DrawnMap → List ℕ
caption drawn =
    codes "<figcaption><b>" ++ items_html (name_item drawn.network ∷ []) ++ codes "</b> "
    ++ items_html (Own (PartOf (granted_of drawn.counts) (block_size drawn.network.prefix)) ∷ []) ++ codes " may</figcaption>"

-- a map with its caption
abbrev pub figure_image : DrawnMap → List ℕ
figure_image drawn = large_map drawn ++ caption drawn

abbrev pub figure : DrawnMap → List ℕ
figure drawn = element_html Figure (Own (Drawn (figure_image drawn)) ∷ [])

-- how many of the networks are of a prefix
abbrev pub count_of : ℕ → List Block → ℕ
count_of prefix networks = count_by (λ network. network.prefix == prefix) networks

-- so many networks, of which prefix they are, and a comma between them and those of one or two other prefixes; nothing, if there are none
abbrev pub count_item : ℕ → Item (List ℕ)
count_item count = if count == 0 then Own Nothing else Own (Plural count (codes "network") (codes "networks"))

abbrev pub prefix_item : ℕ → List ℕ → Item (List ℕ)
prefix_item count prefix = if count == 0 then Own Nothing else Own (Words prefix)

abbrev pub comma_item : ℕ → ℕ → ℕ → Item (List ℕ)
comma_item first second count = if count == 0 || (first == 0 && second == 0) then Own Nothing else Own (Words (codes ", "))

-- so many networks of the prefixes that maps have which are not fixed, as `1 network /8, 3 networks /24`
abbrev pub kinds : ℕ → ℕ → ℕ → List (Item (List ℕ))
kinds wide middle narrow =
    count_item wide ∷ prefix_item wide (codes " /8")
    ∷ comma_item wide 0 middle ∷ count_item middle ∷ prefix_item middle (codes " /16")
    ∷ comma_item wide middle narrow ∷ count_item narrow ∷ prefix_item narrow (codes " /24") ∷ []

-- how many maps are not drawn, and how many of them are of which prefix
abbrev pub cut_items : List Block → List (Item (List ℕ))
cut_items networks =
    Own (Plural (length networks) (codes "more map is") (codes "more maps are")) ∷ Own (Words (codes " not drawn: "))
    ∷ kinds (count_of 8 networks) (count_of 16 networks) (count_of 24 networks) ++ Own (Words (codes ".")) ∷ []

abbrev pub cut : List Block → List ℕ
cut networks = element_html Cut (cut_items networks)

abbrev pub not_drawn : List Block → List ℕ
not_drawn networks = if length networks == 0 then [] else cut networks

-- maps, and the networks that have none
unfoldable pub each_figure : List DrawnMap → List ℕ
each_figure drawn = flat_map figure drawn

abbrev pub figures : List DrawnMap → List Block → List ℕ
figures drawn rest = tag_html MapsStart ++ each_figure drawn ++ tag_html MapsEnd ++ not_drawn rest

-- a page gains the maps of the first so many networks, and is told how many others there are
pub record GainsMaps (runs : List (Run Class)) (most : ℕ) (networks : List Block) (page gained : List ℕ) : Type 0 where
  pub drawn : List DrawnMap
  pub are : AreDrawnFrom runs (take most networks) drawn
  pub text : gained ≡ page ++ figures drawn (drop most networks)

-- how many maps a file system has at most
abbrev pub most_of_file_system : ℕ
most_of_file_system = 12

-- how many maps a group of directories has at most
abbrev pub most_of_group : ℕ
most_of_group = 6

-- The maps of a file system, no more than it has at most: those that each one has, and then the others that are needed.
pub record GainsFileSystemMaps (runs : List (Run Class)) (page gained : List ℕ) : Type 0 where
  pub needed : List Block
  pub are : AreMapsFrom runs needed
  pub maps : GainsMaps runs most_of_file_system (maps_with_fixed needed) page gained

-- The maps of a group of directories, no more than it has at most: those that are needed.
pub record GainsGroupMaps (runs : List (Run Class)) (page gained : List ℕ) : Type 0 where
  pub needed : List Block
  pub are : AreMapsFrom runs needed
  pub maps : GainsMaps runs most_of_group needed page gained

-- the small maps that each file system has, as images, the widest network first
abbrev pub images_of : FixedMaps → List (List ℕ)
images_of maps = image_html maps.all ∷ image_html maps.wide ∷ image_html maps.middle ∷ image_html maps.narrow ∷ []

-- The images of a row of the table of file systems: the maps that each one has.
pub record AreOverviewMaps (runs : List (Run Class)) (images : List (List ℕ)) : Type 0 where
  pub drawn : List DrawnMap
  pub are : AreDrawnFrom runs fixed_maps drawn
  pub images_are : images ≡ map small_map drawn
