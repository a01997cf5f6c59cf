-- The small maps of networks are images of what is drawn of them.
use Rattle.std.proofs.Common.{◌≡◌, ℕ, ◌∙◌, List, [], ◌∷◌, map, refl}
use Rattle.std.proofs.lemmas.List.Elements.{All-cons, All-nil}
use Rattle.desk_text.specs.Network.{Block}
use Rattle.desk_who.specs.Runs.{Run}
use Rattle.page_data.specs.declared.class.Class.{Class}
use Rattle.page_maps.specs.Drawing.{small_map}
use Rattle.page_maps.specs.DrawnMaps.{AreDrawnFrom, IsDrawnFrom}
use Rattle.page_maps.specs.Figures.{AreOverviewMaps}
use Rattle.page_maps.specs.Maps.{fixed_maps}
use Rattle.page_maps.specs.PrivateFigures.{IsSmallMapOf}
use Rattle.page_maps.specs.declared.drawn_maps.DrawnMap.{DrawnMap}

module _ (runs : List (Run Class)) where
  record ArePictured (networks : List Block) (images : List (List ℕ)) : Type 0 where
    drawn : List DrawnMap
    are : AreDrawnFrom runs networks drawn
    images_are : images ≡ map small_map drawn

  none : ArePictured [] []
  none = record { drawn = []; are = record { of = refl; each = All-nil (IsDrawnFrom runs) }; images_are = refl }

  one_more : {network : Block} {networks : List Block} {image : List ℕ} {images : List (List ℕ)} → IsSmallMapOf runs network image → ArePictured networks images
      → ArePictured (network ∷ networks) (image ∷ images)
  one_more is others = record {
    drawn = is.drawn ∷ others.drawn;
    are = record { of = λ i. is.of i ∷ others.are.of i; each = All-cons (IsDrawnFrom runs) is.drawn others.drawn is.from others.are.each };
    images_are = λ i. is.image_is i ∷ others.images_are i;
  }

  pub four_maps : {n1 n2 n3 n4 : Block} {i1 i2 i3 i4 : List ℕ} → IsSmallMapOf runs n1 i1 → IsSmallMapOf runs n2 i2 → IsSmallMapOf runs n3 i3
      → IsSmallMapOf runs n4 i4 → n1 ∷ n2 ∷ n3 ∷ n4 ∷ [] ≡ fixed_maps → AreOverviewMaps runs (i1 ∷ i2 ∷ i3 ∷ i4 ∷ [])
  four_maps a b c d fixed =
      let all = one_more a (one_more b (one_more c (one_more d none))) in
      record { drawn = all.drawn; are = record { of = all.are.of ∙ fixed; each = all.are.each }; images_are = all.images_are }
