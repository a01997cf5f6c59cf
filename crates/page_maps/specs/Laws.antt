-- What maps show, and what is told of those that are needed. (this project's own)
use Rattle.std.specs.Prelude.{◌≡◌, ◌⊎◌, ◌↔◌, ℕ, ◌+◌, ◌-◌, ◌/◌, ◌%◌, ◌^◌, ◌<◌, ◌≤◌, ◌++◌, true, All, Contains, List, length, map}
use Rattle.desk_text.specs.Network.{Block, IsBlock, covers, last_of}
use Rattle.desk_who.specs.Runs.{AreRuns, Run}
use Rattle.desk_policy.specs.Policy.{Content}
use Rattle.page_data.specs.Values.{AreRunsOfSome}
use Rattle.page_data.specs.declared.class.Class.{Class}
use Rattle.page_maps.specs.Cells.{AreCells, cell_first, cell_last, cell_size}
use Rattle.page_maps.specs.DrawnMaps.{IsDrawnFrom}
use Rattle.page_maps.specs.Figures.{AreOverviewMaps, GainsFileSystemMaps, GainsGroupMaps, count_of, figures}
use Rattle.page_maps.specs.Maps.{AreMaps, IsNeeded, IsSeam, IsWide, maps_with_fixed}
use Rattle.page_maps.specs.NetworkTable.{GainsNetworks}
use Rattle.page_maps.specs.declared.cells.Cell.{Cell}
use Rattle.page_maps.specs.declared.drawn_maps.DrawnMap.{DrawnMap}

-- one of the maps shows a seam: it lies within, between two cells
pub record ShowsSeam (maps : List Block) (seam : ℕ) : Type 0 where
  pub network : Block
  pub listed : Contains maps network
  pub behind_first : network.first < seam
  pub within : seam ≤ last_of network
  pub on_grid : (seam - network.first) % cell_size network.prefix ≡ 0

-- Every seam is shown by the maps that are needed, and by those of a file system.
abbrev pub SeamsAreShown : Type 0
SeamsAreShown =
    (class_at : ℕ → Class) (maps : List Block) → AreMaps class_at maps → (seam : ℕ) → IsSeam class_at seam
    → ShowsSeam maps seam × ShowsSeam (maps_with_fixed maps) seam

-- an address is one of a cell
abbrev pub IsInCell : Block → ℕ → ℕ → Type 0
IsInCell network number address = (cell_first network number ≤ address) × (address ≤ cell_last network number)

-- the number of the cell of an address
abbrev pub cell_of : Block → ℕ → ℕ
cell_of network address = (address - network.first) / cell_size network.prefix

-- an address is in one cell, and in no other
abbrev pub IsInOneCell : Block → ℕ → Type 0
IsInOneCell network address =
    (cell_of network address < 256) × ((number : ℕ) → IsInCell network number address ↔ (number ≡ cell_of network address))

-- The cells of a map have each address of the network, and each of them once; and they have no other address.
abbrev pub CellsCoverTheNetwork : Type 0
CellsCoverTheNetwork =
    (network : Block) → IsBlock network → IsWide network
    → ((address : ℕ) → covers network address ≡ true → IsInOneCell network address)
    × ((number address : ℕ) → number < 256 → IsInCell network number address → covers network address ≡ true)

-- some list of cells is that of the map of a network for both functions
pub record HaveSameCells (class_at other_at : ℕ → Class) (network : Block) : Type 0 where
  pub cells : List Cell
  pub own : AreCells class_at network cells
  pub other : AreCells other_at network cells

-- The maps that are needed say all: two functions of addresses with the same maps, and the same cells on each of them, are the same.
abbrev pub MapsAreExactTogether : Type 0
MapsAreExactTogether =
    (class_at other_at : ℕ → Class) (maps : List Block) → AreMaps class_at maps → AreMaps other_at maps
    → ((network : Block) → Contains maps network → HaveSameCells class_at other_at network)
    → (address : ℕ) → address < 2 ^ 32 → other_at address ≡ class_at address

-- the counts by prefix add up to the number of the networks
abbrev pub AreCountedByPrefix : List Block → Type 0
AreCountedByPrefix networks = count_of 8 networks + count_of 16 networks + count_of 24 networks ≡ length networks

-- A page gains maps of these runs, and how many others are needed: each network whose map is needed has one, or is one of the others,
-- which are counted by prefix.
pub record AreDrawnOrCounted (class_at : ℕ → Class) (runs : List (Run Class)) (page gained : List ℕ) : Type 0 where
  pub drawn : List DrawnMap
  pub others : List Block
  pub text : gained ≡ page ++ figures drawn others
  pub each : All (IsDrawnFrom runs) drawn
  pub needed : (network : Block) → IsNeeded class_at network → Contains (map (λ one. one.network) drawn) network ⊎ Contains others network
  pub only : All (IsNeeded class_at) others
  pub counted : AreCountedByPrefix others

-- All maps that are needed are drawn or counted: of a group of directories, and of a file system.
pub record AreAllTold (class_at : ℕ → Class) (runs : List (Run Class)) : Type 0 where
  pub of_group : (page gained : List ℕ) → GainsGroupMaps runs page gained → AreDrawnOrCounted class_at runs page gained
  pub of_file_system : (page gained : List ℕ) → GainsFileSystemMaps runs page gained → AreDrawnOrCounted class_at runs page gained

abbrev pub NeededMapsAreTold : Type 0
NeededMapsAreTold = (class_at : ℕ → Class) (runs : List (Run Class)) → AreRuns class_at runs → AreAllTold class_at runs

-- A page gains at most one text: two that it may gain are the same.
pub record IsOneText (gains : List ℕ → List ℕ → Type 0) : Type 0 where
  pub same : (page gained other : List ℕ) → gains page gained → gains page other → gained ≡ other

-- The maps are told in one way: of a file system, of a group of directories, and in a row of the table of file systems.
pub record AreToldInOneWay (runs : List (Run Class)) : Type 0 where
  pub of_file_system : IsOneText (GainsFileSystemMaps runs)
  pub of_group : IsOneText (GainsGroupMaps runs)
  pub in_overview : (images others : List (List ℕ)) → AreOverviewMaps runs images → AreOverviewMaps runs others → images ≡ others

abbrev pub MapsAreToldInOneWay : Type 0
MapsAreToldInOneWay = (runs : List (Run Class)) → AreRunsOfSome runs → AreToldInOneWay runs

-- So is the table of the networks that lines write.
abbrev pub NetworksAreToldInOneWay : Type 0
NetworksAreToldInOneWay = (content : Content) → IsOneText (GainsNetworks content)
