-- What the counts of a network tell. (this project's own)
use Rattle.std.specs.Prelude.{◌≡◌, ◌≢◌, ◌↔◌, ℕ, ◌≤◌, Some}
use Rattle.desk_text.specs.Network.{Block, block_size, last_of}
use Rattle.page_data.specs.Counts.{AreCounts}
use Rattle.page_data.specs.declared.class.Class.{Class}
use Rattle.page_data.specs.declared.class.Class.TheVariants.{Denied}
use Rattle.page_data.specs.declared.counts.Counts.{Counts}
use Rattle.page_maps.specs.NetworkRows.{class_of_all}

-- all addresses of a network have this class
abbrev pub AllHave : (ℕ → Class) → Block → Class → Type 0
AllHave class_at network class = (address : ℕ) → network.first ≤ address → address ≤ last_of network → class_at address ≡ class

-- A class is told of all addresses of a network exactly if all of them have it, and it is not that of a denial.
abbrev pub AlikeMeansAll : Type 0
AlikeMeansAll =
    (class_at : ℕ → Class) (network : Block) (counts : Counts) → AreCounts class_at network.first (last_of network) counts
    → (class : Class)
    → (class_of_all (block_size network.prefix) counts ≡ Some class) ↔ ((class ≢ Denied) × AllHave class_at network class)
