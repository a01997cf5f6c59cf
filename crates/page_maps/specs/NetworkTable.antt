-- The table of the networks that lines write. (this project's own)
use Rattle.std.specs.Prelude.{◌≡◌, ℕ, ◌==◌, ◌-◌, List, [], ◌∷◌, ◌++◌, codes, false, length, map, take, if◌then◌else◌}
use Rattle.std.specs.List.{flat_map}
use Rattle.desk_text.specs.Network.{Block, block_size}
use Rattle.desk_policy.specs.Policy.{Content}
use Rattle.page_html.specs.Blocks.{element_html, tag_html}
use Rattle.page_html.specs.Items.{Item, Number, Own, Plural, Words}
use Rattle.page_html.specs.Tables.{Count, Frame, Name, Plain, rows_html, table_start}
use Rattle.page_html.specs.Titles.{Said}
use Rattle.page_html.specs.declared.blocks.Element.TheVariants.{Cut, Paragraph}
use Rattle.page_html.specs.declared.blocks.Tag.TheVariants.{TableEnd}
use Rattle.page_maps.specs.Drawing.{network_item}
use Rattle.page_maps.specs.LineNetworks.{written_networks}
use Rattle.page_maps.specs.NetworkCells.{alike_cell, mixed_cell}
use Rattle.page_maps.specs.NetworkRows.{AreNetworkRows}
use Rattle.page_maps.specs.Order.{AreOrdered}
use Rattle.page_maps.specs.declared.networks.NetworkRow.{NetworkRow}

-- the table
abbrev pub frame : Frame
frame = record {
  class = codes "p";
  is_titled = false;
  columns =
      Name (codes "Network") ∷ Count (codes "Addresses") ∷ Plain (codes "All of it, alike") ∷ Plain (codes "Parts of it, and how many addresses")
      ∷ [];
}

-- a row: the network, how many addresses it has, and what they may on which file systems
abbrev pub cells : Content → NetworkRow → List (List (Item (List ℕ)))
cells content row =
    (network_item row.network ∷ []) ∷ (Own (Number (block_size row.network.prefix)) ∷ []) ∷ alike_cell content row.alike
    ∷ mixed_cell content row.parts ∷ []

-- how many networks are not listed, if there are any
abbrev pub not_listed : ℕ → List (Item (List ℕ))
not_listed count =
    Own (Plural count (codes "more network is") (codes "more networks are")) ∷ Own (Words (codes " not listed, none of them wider.")) ∷ []

abbrev pub left_out : ℕ → List ℕ
left_out count = if count == 0 then [] else element_html Cut (not_listed count)

-- the table, if there is a network, and what is told before it
abbrev pub told : Item (List ℕ)
told =
    Own (Words (codes "The networks that lines write, but for /0 and those of IPv6, the widest first, and what their addresses may mount at the most, on some directory of each file system."))

abbrev pub some_networks : Content → List NetworkRow → ℕ → List ℕ
some_networks content rows count =
    element_html Paragraph (told ∷ []) ++ table_start frame (Said (codes "What the networks may mount that lines write") ∷ [])
    ++ rows_html frame (map (cells content) rows) ++ tag_html TableEnd ++ left_out count

abbrev pub no_network : List ℕ
no_network = element_html Paragraph (Own (Words (codes "No line writes a network, but for /0 or one of IPv6.")) ∷ [])

abbrev pub networks_text : Content → List NetworkRow → ℕ → List ℕ
networks_text content rows count = if length rows == 0 then no_network else some_networks content rows count

-- A page gains the table of the networks that lines of any file system write, the widest first: a row for each of the first 64 of them,
-- and how many more there are.
pub record GainsNetworks (content : Content) (old new : List ℕ) : Type 0 where
  pub written : List Block
  pub ordered : AreOrdered (flat_map written_networks content.rows) written
  pub listed : List NetworkRow
  pub are : AreNetworkRows content (take 64 written) listed
  pub text : new ≡ old ++ networks_text content listed (length written - 64)
