-- Maps and the table of networks are made of blocks.
use Rattle.std.proofs.Common.{ℕ, ◌-◌, ◌==◌, List, [], ◌∷◌, codes, drop, inl, length, refl}
use Rattle.desk_policy.specs.Policy.{Content}
use Rattle.desk_text.specs.Network.{Block}
use Rattle.desk_who.specs.Runs.{Run}
use Rattle.page_data.specs.declared.class.Class.{Class}
use Rattle.page_html.specs.Items.{Drawn, Own, Words}
use Rattle.page_html.specs.Pages.{In}
use Rattle.page_html.specs.Titles.{Said}
use Rattle.page_html.specs.declared.blocks.Element.TheVariants.{Cut, Figure, Paragraph}
use Rattle.page_html.specs.declared.blocks.Tag.TheVariants.{MapsEnd, MapsStart, TableEnd}
use Rattle.page_maps.specs.Figures.{GainsFileSystemMaps, GainsGroupMaps, GainsMaps, cut_items, each_figure, figure, figure_image, figures, most_of_file_system, most_of_group, not_drawn}
use Rattle.page_maps.specs.Maps.{maps_with_fixed}
use Rattle.page_maps.specs.NetworkTable.{GainsNetworks, cells, frame, left_out, networks_text, no_network, not_listed, some_networks, told}
use Rattle.page_maps.specs.declared.drawn_maps.DrawnMap.{DrawnMap}
use Rattle.page_maps.specs.declared.networks.NetworkRow.{NetworkRow}
use Rattle.page_site.specs.MadeOfBlocks.{IsMadeOfBlocks}
use Rattle.page_site.proofs.Made.{IsMadeIf, append_made, block_made, each_made, element_made, if_made, nothing_made, rows_made, same_made, start_made, tag_made}
use Rattle.page_maps.proofs.Plain.{cut_plain, network_plain}

-- ---- maps
not_drawn_made : (networks : List Block) → IsMadeOfBlocks (not_drawn networks)
not_drawn_made networks = if_made (length networks == 0) nothing_made (element_made Cut (cut_items networks) (cut_plain networks))

figure_made : (drawn : DrawnMap) → IsMadeOfBlocks (figure drawn)
figure_made drawn = block_made (In Figure (Own (Drawn (figure_image drawn)) ∷ [])) (inl (record { drawn = drawn; is = refl }), tt)

figures_made : (drawn : List DrawnMap) (rest : List Block) → IsMadeOfBlocks (figures drawn rest)
unfolding each_figure
figures_made drawn rest =
    append_made (append_made (append_made (tag_made MapsStart) (each_made figure figure_made drawn)) (tag_made MapsEnd)) (not_drawn_made rest)

maps_made : (runs : List (Run Class)) (most : ℕ) (networks : List Block) (text : List ℕ) → GainsMaps runs most networks [] text → IsMadeOfBlocks text
maps_made runs most networks text gains = same_made gains.text (figures_made gains.drawn (drop most networks))

pub file_system_maps_made : (runs : List (Run Class)) → IsMadeIf (GainsFileSystemMaps runs [])
file_system_maps_made runs text gains = maps_made runs most_of_file_system (maps_with_fixed gains.needed) text gains.maps

pub group_maps_made : (runs : List (Run Class)) → IsMadeIf (GainsGroupMaps runs [])
group_maps_made runs text gains = maps_made runs most_of_group gains.needed text gains.maps

-- ---- networks
left_out_made : (count : ℕ) → IsMadeOfBlocks (left_out count)
left_out_made count = if_made (count == 0) nothing_made (element_made Cut (not_listed count) (record { are = refl }))

some_networks_made : (content : Content) (rows : List NetworkRow) (count : ℕ) → IsMadeOfBlocks (some_networks content rows count)
some_networks_made content rows count =
    append_made (append_made (append_made (append_made
    (element_made Paragraph (told ∷ []) (record { are = refl }))
    (start_made frame (Said (codes "What the networks may mount that lines write") ∷ [])))
    (rows_made frame (cells content) (network_plain content) rows))
    (tag_made TableEnd))
    (left_out_made count)

no_network_made : IsMadeOfBlocks no_network
no_network_made = element_made Paragraph (Own (Words (codes "No line writes a network, but for /0 or one of IPv6.")) ∷ []) (record { are = refl })

networks_made : (content : Content) (rows : List NetworkRow) (count : ℕ) → IsMadeOfBlocks (networks_text content rows count)
networks_made content rows count = if_made (length rows == 0) no_network_made (some_networks_made content rows count)

pub gains_networks_made : (content : Content) → IsMadeIf (GainsNetworks content [])
gains_networks_made content text gains = same_made gains.text (networks_made content gains.listed (length gains.written - 64))
