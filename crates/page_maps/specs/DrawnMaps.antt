-- What is drawn of a network. (this project's own)
use Rattle.std.specs.Prelude.{◌≡◌, ◌≤◌, All, List, length, map}
use Rattle.desk_text.specs.Network.{Block, block_size, last_of}
use Rattle.desk_who.specs.Runs.{Run}
use Rattle.page_data.specs.Counts.{AreCountsFrom, granted_of}
use Rattle.page_data.specs.declared.class.Class.{Class}
use Rattle.page_maps.specs.Cells.{AreCellsFrom}
use Rattle.page_maps.specs.Maps.{IsWide}
use Rattle.page_maps.specs.declared.drawn_maps.DrawnMap.{DrawnMap}

-- Given the runs of a function of addresses, the map of its network: each cell with the least and the most that its addresses may, and
-- how many addresses of the network are of each class.
pub record IsDrawnFrom (runs : List (Run Class)) (drawn : DrawnMap) : Type 0 where
  pub cells : AreCellsFrom runs drawn.network drawn.cells
  pub counts : AreCountsFrom runs drawn.network.first (last_of drawn.network) drawn.counts

-- the maps of just these networks, in their order
pub record AreDrawnFrom (runs : List (Run Class)) (networks : List Block) (drawn : List DrawnMap) : Type 0 where
  pub of : map (λ one. one.network) drawn ≡ networks
  pub each : All (IsDrawnFrom runs) drawn

-- What can be drawn: each cell has an address at least, there are 256 of them, and no more addresses may mount something than there are.
pub record IsDrawable (drawn : DrawnMap) : Type 0 where
  pub wide : IsWide drawn.network
  pub cells : length drawn.cells ≡ 256
  pub granted : granted_of drawn.counts ≤ block_size drawn.network.prefix
