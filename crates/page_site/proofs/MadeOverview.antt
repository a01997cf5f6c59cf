-- The overview of the file systems is made of blocks.
use Rattle.std.proofs.Common.{◌≡◌, ℕ, List, [], ◌∷◌, ◌∙◌, arith, codes, inr, map, refl, subst, sym}
use Rattle.std.specs.Prelude.{All}
use Rattle.std.specs.List.{AllByRecursion}
use Rattle.std.proofs.lemmas.List.Elements.{All-head, All-tail}
use Rattle.desk_core.specs.declared.head.Head.{Head}
use Rattle.desk_core.specs.declared.proposal.Proposal.{Proposal}
use Rattle.desk_policy.specs.Policy.{Content}
use Rattle.desk_who.specs.Runs.{Run}
use Rattle.page_data.specs.declared.class.Class.{Class}
use Rattle.page_html.specs.Items.{Item}
use Rattle.page_html.specs.Pages.{Row}
use Rattle.page_html.specs.Pictures.{CellsHaveNoHtmlBut}
use Rattle.page_html.specs.Tables.{filled, row_html, rows_html, short_row_html}
use Rattle.page_html.specs.Titles.{Said}
use Rattle.page_html.specs.declared.blocks.Tag.TheVariants.{TableEnd}
use Rattle.page_maps.specs.Drawing.{small_map}
use Rattle.page_maps.specs.Figures.{AreOverviewMaps, images_of}
use Rattle.page_maps.specs.declared.drawn_maps.DrawnMap.{DrawnMap}
use Rattle.page_summary.specs.Overview.{any_cells, cells, legend, overview, overview_frame, overview_start}
use Rattle.page_summary.specs.SystemRows.{AreOverviewRows, OverviewRows, overview_text}
use Rattle.page_summary.specs.declared.overview.Reach.{Reach}
use Rattle.page_summary.specs.declared.overview.SystemRow.{SystemRow}
use Rattle.page_summary.proofs.PlainOverview.{any_are, cells_are}
use Rattle.page_site.specs.FoundInSite.{Found, IsFound}
use Rattle.page_site.specs.MadeOfBlocks.{IsMadeOfBlocks, IsPicture}
use Rattle.page_site.specs.Page.{parts_of}
use Rattle.page_site.proofs.Made.{append_made, block_made, fixed_made, nothing_made, start_made, tag_made}

-- ---- the maps of a row are pictures
abbrev ArePictures : List (List ℕ) → Type 0
ArePictures images = AllByRecursion IsPicture images

small_pictures : (drawn : List DrawnMap) → ArePictures (map small_map drawn)
small_pictures [] = tt
small_pictures (one ∷ drawn) = (inr (record { drawn = one; is = refl }), small_pictures drawn)

pictures : (runs : List (Run Class)) (images others : List (List ℕ)) → images ≡ others → AreOverviewMaps runs others → ArePictures images
pictures runs images others same maps = subst ArePictures (sym (same ∙ maps.images_are)) (small_pictures maps.drawn)

row_made : (cells : List (List (Item (List ℕ)))) → CellsHaveNoHtmlBut IsPicture cells → IsMadeOfBlocks (row_html overview_frame cells)
row_made cells are = block_made (Row overview_frame cells) are

-- ---- the rows
any_made : (together : Reach) → ArePictures (images_of together.maps.now) → IsMadeOfBlocks (short_row_html overview_frame (any_cells together))
any_made together are = row_made (filled overview_frame.columns (any_cells together)) (any_are IsPicture together are)

abbrev HasPictures : SystemRow → Type 0
HasPictures system = ArePictures (images_of system.reach.maps.now)

systems_made : (systems : List SystemRow) → All HasPictures systems → IsMadeOfBlocks (rows_html overview_frame (map cells systems))
unfolding rows_html
systems_made [] have = nothing_made
systems_made (system ∷ systems) have =
    append_made (row_made (cells system) (cells_are IsPicture system (All-head HasPictures system systems have)))
    (systems_made systems (All-tail HasPictures system systems have))

legend_made : IsMadeOfBlocks legend
legend_made = fixed_made legend (2, omega arith, refl)

overview_start_made : IsMadeOfBlocks overview_start
overview_start_made =
    start_made overview_frame (Said (codes "The file systems, and where the clients are that may mount some directory of them") ∷ [])

overview_made : (together : Reach) (systems : List SystemRow) → ArePictures (images_of together.maps.now) → All HasPictures systems
    → IsMadeOfBlocks (overview together systems)
overview_made together systems are have =
    append_made (append_made (append_made (append_made legend_made overview_start_made) (any_made together are)) (systems_made systems have)) (tag_made TableEnd)

module _ (content : Content) (heads : List Head) (proposals : List Proposal) (found : Found) (is_found : IsFound content found) where
  together_has : (made : OverviewRows) → AreOverviewRows (parts_of content heads proposals found) made → ArePictures (images_of made.together.maps.now)
  together_has made are = pictures _ _ _ are.together.maps_are is_found.maps.first

  systems_have : (made : OverviewRows) → AreOverviewRows (parts_of content heads proposals found) made → All HasPictures made.rows
  systems_have made are = λ place default within.
      let is = are.rows.each place default within in
      let count = are.rows.count in
      pictures _ _ _ is.reach.maps_are (is_found.maps.each place is.system (omega arith))

  pub overview_rows_made : (made : OverviewRows) → AreOverviewRows (parts_of content heads proposals found) made → IsMadeOfBlocks (overview_text made)
  overview_rows_made made are = overview_made made.together made.rows (together_has made are) (systems_have made are)
