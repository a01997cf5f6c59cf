-- How many addresses of which networks may mount some directory of a file system. (this project's own)
use Rattle.std.specs.Prelude.{ℕ, ◌+◌, ◌==◌, ◌≤◌, ◌^◌, List, [], ◌∷◌, ◌++◌, codes, map, true, if◌then◌else◌}
use Rattle.desk_text.specs.Address.{number_of}
use Rattle.page_data.specs.Counts.{granted_of}
use Rattle.page_data.specs.declared.counts.Counts.{Counts}
use Rattle.page_html.specs.Blocks.{element_html, tag_html}
use Rattle.page_html.specs.Items.{Item, Network, Number, Own, PartOf, Plural, SmallPercent, Words, Zero}
use Rattle.page_html.specs.Tables.{Count, Frame, Name, rows_html, table_start}
use Rattle.page_html.specs.Titles.{Named, Said}
use Rattle.page_html.specs.declared.blocks.Element.TheVariants.{Cut, OpenFold}
use Rattle.page_html.specs.declared.blocks.Tag.TheVariants.{FoldEnd, TableEnd}
use Rattle.page_filesystem.specs.declared.shares.Share.{Share}
use Rattle.page_filesystem.specs.declared.shares.Space.{Space}
use Rattle.page_filesystem.specs.declared.shares.Space.TheVariants as spaces

-- how many addresses there are
abbrev pub size_of : Counts → ℕ
size_of counts = counts.denied + granted_of counts

-- no share has more addresses than there are
abbrev pub HasSize : Share → Type 0
HasSize share = size_of share.counts ≤ 2 ^ 32

-- the table
abbrev pub frame : Frame
frame = record {
  class = codes "s";
  is_titled = true;
  columns =
      Name (codes "Network") ∷ Count (codes "has") ∷ Count (codes "read-only") ∷ Count (codes "read-write") ∷ Count (codes "root kept")
      ∷ Count (codes "may mount") ∷ [];
}

-- what the addresses of a share are called
abbrev pub space_item : Space → Item (List ℕ)
space_item spaces.All = Own (Words (codes "all of IPv4"))
space_item spaces.OutsidePrivate = Own (Words (codes "outside private space"))
space_item (spaces.Network first prefix) = Own (Network (number_of first) prefix)

-- how many of them are of a class
abbrev pub count_item : ℕ → Item (List ℕ)
count_item count = if count == 0 then Own (Zero (codes "0")) else Own (Number count)

-- how much of a whole may mount something
abbrev pub granted_items : ℕ → ℕ → List (Item (List ℕ))
granted_items count whole = Own (PartOf count whole) ∷ Own (Words (codes " ")) ∷ Own (SmallPercent count whole) ∷ []

-- a row: the addresses, how many there are, how many of them are of which class, and how many may mount something
abbrev pub cells : Share → List (List (Item (List ℕ)))
cells share =
    (space_item share.space ∷ []) ∷ (Own (Number (size_of share.counts)) ∷ []) ∷ (count_item share.counts.read_only ∷ [])
    ∷ (count_item share.counts.read_write ∷ []) ∷ (count_item share.counts.root_kept ∷ [])
    ∷ granted_items (granted_of share.counts) (size_of share.counts) ∷ []

abbrev pub shares_table : List ℕ → List Share → List ℕ
shares_table name shares =
    table_start frame (Said (codes "Addresses that may mount some directory of ") ∷ Named name ∷ [])
    ++ rows_html frame (map cells shares) ++ tag_html TableEnd

-- how many networks are left out
abbrev pub networks_cut : ℕ → List (Item (List ℕ))
networks_cut count =
    Own (Plural count (codes "more network that lines write is") (codes "more networks that lines write are"))
    ∷ Own (Words (codes " not listed, none of them wider.")) ∷ []

abbrev pub networks_left_out : ℕ → List ℕ
networks_left_out count = if count == 0 then [] else element_html Cut (networks_cut count)

-- The table of shares, which is folded but open.
abbrev pub shares_block : List ℕ → List Share → ℕ → List ℕ
shares_block name shares left_out =
    element_html OpenFold (Own (Words (codes "The same in numbers")) ∷ []) ++ shares_table name shares ++ networks_left_out left_out
    ++ tag_html FoldEnd
