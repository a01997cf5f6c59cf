-- What the private contracts of the maps of a part of the page cite.
use Rattle.std.specs.Prelude.{◌≡◌, ℕ, ◌++◌, List}
use Rattle.std.specs.List.{flat_map}
use Rattle.desk_text.specs.Network.{Block}
use Rattle.desk_who.specs.Runs.{Run}
use Rattle.page_data.specs.declared.class.Class.{Class}
use Rattle.page_maps.specs.Drawing.{small_map}
use Rattle.page_maps.specs.DrawnMaps.{AreDrawnFrom, IsDrawnFrom}
use Rattle.page_maps.specs.Figures.{figure}
use Rattle.page_maps.specs.declared.drawn_maps.DrawnMap.{DrawnMap}

-- a page gains a text for the map of each network
pub record GainsEach (text_of : DrawnMap → List ℕ) (runs : List (Run Class)) (networks : List Block) (page gained : List ℕ) : Type 0 where
  pub drawn : List DrawnMap
  pub are : AreDrawnFrom runs networks drawn
  pub text : gained ≡ page ++ flat_map text_of drawn

-- a figure for each
abbrev pub GainsFigures : List (Run Class) → List Block → List ℕ → List ℕ → Type 0
GainsFigures runs networks page gained = GainsEach figure runs networks page gained

-- the small map of a network
pub record IsSmallMapOf (runs : List (Run Class)) (network : Block) (image : List ℕ) : Type 0 where
  pub drawn : DrawnMap
  pub of : drawn.network ≡ network
  pub from : IsDrawnFrom runs drawn
  pub image_is : image ≡ small_map drawn
