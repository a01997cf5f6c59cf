-- The file systems of a site. (this project's own)
use Rattle.std.specs.Prelude.{ℕ, ◌==◌, ◌&&◌, Bool, List, [], ◌∷◌, ◌++◌, Option, Some, None, codes, false, map, if◌then◌else◌}
use Rattle.std.specs.Option.{option_copied}
use Rattle.desk_core.specs.declared.head.Head.{Head}
use Rattle.page_data.specs.declared.class.Class.{Class}
use Rattle.page_html.specs.Blocks.{tag_html}
use Rattle.page_html.specs.Items.{Code, Codes, Digits, Drawn, Item, Nothing, Own, PartOf, Plural, Strong, System, Words, Zero}
use Rattle.page_html.specs.Tables.{Count, Frame, Name, Plain, rows_html, short_row_html, table_start}
use Rattle.page_html.specs.Titles.{Said}
use Rattle.page_html.specs.declared.blocks.Tag.TheVariants.{TableEnd}
use Rattle.page_findings.specs.Badges.{badge_item}
use Rattle.page_maps.specs.Figures.{images_of}
use Rattle.page_summary.specs.declared.overview.Reach.{Reach}
use Rattle.page_summary.specs.declared.overview.SystemRow.{SystemRow}
use Rattle.page_summary.specs.declared.overview.TheConstants.{LEGEND}

-- the key of the maps
unfoldable pub legend : List ℕ
legend = LEGEND.now

-- the table
abbrev pub overview_frame : Frame
overview_frame = record {
  class = codes "o";
  is_titled = false;
  columns =
      Name (codes "File system") ∷ Plain (codes "At the most") ∷ Plain (codes "all of IPv4") ∷ Plain (codes "10.0.0.0/8")
      ∷ Plain (codes "172.16.0.0/12") ∷ Plain (codes "192.168.0.0/16") ∷ Count (codes "Addresses") ∷ Plain (codes "Kept by")
      ∷ Plain (codes "In force") ∷ Plain (codes "Stands out") ∷ [];
}

-- how far file systems reach: the most that an address may, the maps, and how many of all addresses may something
abbrev pub map_cell : List ℕ → List (Item (List ℕ))
map_cell image = Own (Drawn image) ∷ []

abbrev pub reach_cells : Class → List (List ℕ) → ℕ → List (List (Item (List ℕ)))
reach_cells most images addresses = (badge_item most ∷ []) ∷ map map_cell images ++ (Own (PartOf addresses 4294967296) ∷ []) ∷ []

-- a part, if something is so
abbrev pub item_if : Bool → Item (List ℕ) → Item (List ℕ)
item_if is_so item = if is_so then item else Own Nothing

abbrev pub space : Item (List ℕ)
space = Own (Words (codes " "))

-- who keeps it
abbrev pub keepers : List (List ℕ) → Bool → List (Item (List ℕ))
keepers custodians guarded = Codes custodians ∷ item_if guarded space ∷ item_if guarded (Own (Strong (codes "guarded"))) ∷ []

-- its newest revision, as `rev 3 by ada`, and whether a proposal waits
abbrev pub waits : Bool → List (Item (List ℕ))
waits has_proposal = item_if has_proposal space ∷ item_if has_proposal (Own (Strong (codes "proposal waits"))) ∷ []

abbrev pub in_force : Option Head → Bool → List (Item (List ℕ))
in_force None has_proposal = Own (Words (codes "none")) ∷ Own Nothing ∷ Own Nothing ∷ Own Nothing ∷ waits has_proposal
in_force (Some head) has_proposal =
    Own (Words (codes "rev ")) ∷ Own (Digits head.rev) ∷ Own (Words (codes " by ")) ∷ Code head.author ∷ waits has_proposal

-- how many of its lines stand out: those to look at first, and behind them those to check
abbrev pub first_level : ℕ → Item (List ℕ)
first_level count = Own (Plural count (codes "look first") (codes "look first"))

abbrev pub second_level : ℕ → Item (List ℕ)
second_level count = Own (Plural count (codes "check") (codes "check"))

abbrev pub standing_out : ℕ → ℕ → List (Item (List ℕ))
standing_out first check =
    if first == 0 && check == 0 then Own (Zero (codes "nothing")) ∷ Own Nothing ∷ Own Nothing ∷ []
    else (if first == 0 then second_level check ∷ Own Nothing ∷ Own Nothing ∷ []
    else (if check == 0 then first_level first ∷ Own Nothing ∷ Own Nothing ∷ []
    else first_level first ∷ Own (Words (codes ", ")) ∷ second_level check ∷ []))

-- what a row for a file system tells behind how far it reaches, given its newest revision
abbrev pub told_cells : Option Head → SystemRow → List (List (Item (List ℕ)))
told_cells head system =
    keepers system.custodians.now system.guarded ∷ in_force head system.has_proposal ∷ standing_out system.first system.check ∷ []

-- its cells, given the images of its maps: its name, how far it reaches, and the others
abbrev pub cells_with : List (List ℕ) → Option Head → SystemRow → List (List (Item (List ℕ)))
cells_with images head system =
    (System system.fs.0 system.name.now ∷ []) ∷ reach_cells system.reach.most images system.reach.addresses ++ told_cells head system

abbrev pub cells : SystemRow → List (List (Item (List ℕ)))
cells system = cells_with (images_of system.reach.maps.now) (option_copied system.head) system

-- those of the row for all together, of which the last are empty
abbrev pub any_with : List (List ℕ) → Reach → List (List (Item (List ℕ)))
any_with images together = (Own (Strong (codes "any of them")) ∷ []) ∷ reach_cells together.most images together.addresses

abbrev pub any_cells : Reach → List (List (Item (List ℕ)))
any_cells together = any_with (images_of together.maps.now) together

-- the key of the maps, and the table
abbrev pub overview_start : List ℕ
overview_start =
    table_start overview_frame (Said (codes "The file systems, and where the clients are that may mount some directory of them") ∷ [])

abbrev pub overview : Reach → List SystemRow → List ℕ
overview together systems =
    legend ++ overview_start ++ short_row_html overview_frame (any_cells together) ++ rows_html overview_frame (map cells systems)
    ++ tag_html TableEnd
