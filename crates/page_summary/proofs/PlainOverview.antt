-- The cells of the overview: no part of them stands as HTML but the maps.
use Rattle.std.proofs.Common.{◌≡◌, ℕ, ◌==◌, ◌&&◌, List, [], ◌∷◌, ◌++◌, Bool, true, false, Option, Some, None, codes, map, refl}
use Rattle.std.specs.List.{AllByRecursion}
use Rattle.std.specs.Option.{option_copied}
use Rattle.desk_core.specs.declared.head.Head.{Head}
use Rattle.page_data.specs.declared.class.Class.{Class}
use Rattle.page_html.specs.Items.{Item, Nothing, Own, Words, Zero}
use Rattle.page_html.specs.Pictures.{CellsHaveNoHtmlBut}
use Rattle.page_html.specs.Tables.{Column, filled}
use Rattle.page_html.proofs.Plain.{ArePlain, both, cells_alone, cells_have_no_picture, either_plain, item_alone, parts}
use Rattle.page_findings.proofs.Plain.{badge_plain}
use Rattle.page_maps.specs.Figures.{images_of}
use Rattle.page_summary.specs.Overview.{any_cells, cells, first_level, in_force, keepers, map_cell, overview_frame, reach_cells, second_level, standing_out, told_cells, waits}
use Rattle.page_summary.specs.declared.overview.Reach.{Reach}
use Rattle.page_summary.specs.declared.overview.SystemRow.{SystemRow}

-- ---- the cells that have no picture
keepers_plain : (custodians : List (List ℕ)) (guarded : Bool) → ArePlain (keepers custodians guarded)
keepers_plain custodians true = record { are = refl }
keepers_plain custodians false = record { are = refl }

waits_plain : (waiting : Bool) → ArePlain (waits waiting)
waits_plain true = record { are = refl }
waits_plain false = record { are = refl }

in_force_plain : (head : Option Head) (waiting : Bool) → ArePlain (in_force head waiting)
in_force_plain None waiting = record { are = (waits_plain waiting).are }
in_force_plain (Some head) waiting = record { are = (waits_plain waiting).are }

standing_out_plain : (first check : ℕ) → ArePlain (standing_out first check)
standing_out_plain first check =
    either_plain (first == 0 && check == 0) (parts (Own (Zero (codes "nothing")) ∷ Own Nothing ∷ Own Nothing ∷ []) refl)
    (either_plain (first == 0) (parts (second_level check ∷ Own Nothing ∷ Own Nothing ∷ []) refl)
    (either_plain (check == 0) (parts (first_level first ∷ Own Nothing ∷ Own Nothing ∷ []) refl)
    (parts (first_level first ∷ Own (Words (codes ", ")) ∷ second_level check ∷ []) refl)))

-- a cell of literal parts needs no word here: it is computed away
told_plain : (head : Option Head) (system : SystemRow) → cells_have_no_picture (told_cells head system) ≡ true
told_plain head system =
    both _ _ (keepers_plain system.custodians.now system.guarded).are
    (both _ _ (in_force_plain head system.has_proposal).are (both _ _ (standing_out_plain system.first system.check).are refl))

-- ---- the rows, whatever the images of their maps are
module _ (IsImage : List ℕ → Type 0) where
  maps_before : (images : List (List ℕ)) (others : List (List (Item (List ℕ)))) → AllByRecursion IsImage images → CellsHaveNoHtmlBut IsImage others
      → CellsHaveNoHtmlBut IsImage (map map_cell images ++ others)
  maps_before [] others are its = its
  maps_before (image ∷ images) others are its = ((are.0, tt), maps_before images others are.1 its)

  cells_before : (some others : List (List (Item (List ℕ)))) → CellsHaveNoHtmlBut IsImage some → CellsHaveNoHtmlBut IsImage others → CellsHaveNoHtmlBut IsImage (some ++ others)
  cells_before [] others own its = its
  cells_before (items ∷ some) others own its = (own.0, cells_before some others own.1 its)

  filled_are : (columns : List Column) (cells : List (List (Item (List ℕ)))) → CellsHaveNoHtmlBut IsImage cells → CellsHaveNoHtmlBut IsImage (filled columns cells)
  filled_are [] cells are = tt
  filled_are (column ∷ columns) [] are = (tt, filled_are columns [] tt)
  filled_are (column ∷ columns) (items ∷ cells) are = (are.0, filled_are columns cells are.1)

  reach_are : (most : Class) (images : List (List ℕ)) (addresses : ℕ) → AllByRecursion IsImage images → CellsHaveNoHtmlBut IsImage (reach_cells most images addresses)
  reach_are most images addresses are = ((item_alone IsImage _ (badge_plain most).is, tt), maps_before images _ are ((tt, tt), tt))

  pub any_are : (together : Reach) → AllByRecursion IsImage (images_of together.maps.now)
      → CellsHaveNoHtmlBut IsImage (filled overview_frame.columns (any_cells together))
  any_are together are =
      filled_are overview_frame.columns (any_cells together) ((tt, tt), reach_are together.most (images_of together.maps.now) together.addresses are)

  pub cells_are : (system : SystemRow) → AllByRecursion IsImage (images_of system.reach.maps.now) → CellsHaveNoHtmlBut IsImage (cells system)
  cells_are system are =
      let images = images_of system.reach.maps.now in
      let told = told_cells (option_copied system.head) system in (
        (tt, tt),
        cells_before (reach_cells system.reach.most images system.reach.addresses) told
            (reach_are system.reach.most images system.reach.addresses are) (cells_alone IsImage told (told_plain (option_copied system.head) system)),
      )
