-- What the networks that lines write may mount, on each file system. (this project's own)
use Rattle.std.specs.Prelude.{◌≡◌, ℕ, ◌<◌, ◌^◌, ◌==◌, ◌&&◌, ◌∷◌, [], not, Bool, true, false, List, Option, Some, None, filter, length, slice_index_or, if◌then◌else◌}
use Rattle.std.specs.List.{flat_map}
use Rattle.desk_text.specs.Network.{Block, IsBlock, block_size, last_of}
use Rattle.desk_tables.specs.FileSystems.{fs_of}
use Rattle.desk_tables.specs.declared.filesystems.FsId.{FsId}
use Rattle.desk_policy.specs.Policy.{Content}
use Rattle.desk_policy.specs.Verdict.{is_in}
use Rattle.page_data.specs.Classes.{IsMostOn}
use Rattle.page_data.specs.Counts.{AreCounts}
use Rattle.page_data.specs.declared.class.Class.{Class}
use Rattle.page_data.specs.declared.class.Class.TheVariants.{ReadOnly, ReadWrite, RootKept}
use Rattle.page_data.specs.declared.counts.Counts.{Counts}
use Rattle.page_maps.specs.declared.networks.NetworkRow.{NetworkRow}
use Rattle.page_maps.specs.declared.networks.SystemClass.{SystemClass}
use Rattle.page_maps.specs.declared.networks.SystemCounts.{SystemCounts}

-- how many addresses of a network, which has no host bits, may what on a file system, given of each address the most that it may there
pub record IsCountedIn (content : Content) (network : Block) (fs : ℕ) (one : SystemCounts) : Type 0 where
  pub number : one.fs.0 ≡ fs
  pub is_network : IsBlock network
  pub class_at : ℕ → Class
  pub most : (address : ℕ) → address < 2 ^ 32 → IsMostOn content (λ path. is_in (fs_of content.table path) fs) address (class_at address)
  pub are : AreCounts class_at network.first (last_of network) one.counts

-- the same for each file system, in the order of their table
pub record AreCountsOfSite (content : Content) (network : Block) (counted : List SystemCounts) : Type 0 where
  pub count : length counted ≡ length content.table
  pub each : (fs : ℕ) (default : SystemCounts) → fs < length content.table → IsCountedIn content network fs (slice_index_or counted fs default)

-- the class that all of so many addresses have, if they have one, and it is not that of a denial
abbrev pub class_of_all : ℕ → Counts → Option Class
class_of_all size counts =
    if counts.root_kept == size then Some RootKept
    else if counts.read_write == size then Some ReadWrite
    else if counts.read_only == size then Some ReadOnly
    else None

-- a file system with the class that all addresses have on it, if they have one and are not denied
abbrev pub with_class : FsId → Option Class → List SystemClass
with_class fs None = []
with_class fs (Some class) = record { fs = fs; class = class } ∷ []

abbrev pub alike_on : ℕ → SystemCounts → List SystemClass
alike_on size one = with_class one.fs (class_of_all size one.counts)

-- those file systems on which all addresses of a network have one class, and are not denied
abbrev pub alike_of : Block → List SystemCounts → List SystemClass
alike_of network counted = flat_map (alike_on (block_size network.prefix)) counted

-- some address is granted something
abbrev pub grants_some : Counts → Bool
grants_some counts = not (counts.read_only == 0 && counts.read_write == 0 && counts.root_kept == 0)

-- there is no class
abbrev pub is_mixed : Option Class → Bool
is_mixed None = true
is_mixed (Some class) = false

-- some of so many addresses are granted something on a file system, and not all of them have one class
abbrev pub is_part : ℕ → SystemCounts → Bool
is_part size one = grants_some one.counts && is_mixed (class_of_all size one.counts)

-- the file systems on which that is so with the addresses of a network
abbrev pub parts_of : Block → List SystemCounts → List SystemCounts
parts_of network counted = filter (is_part (block_size network.prefix)) counted

-- What the addresses of a network may, on each file system on which some of them may something: on these all have one class, and on
-- those they do not.
pub record IsNetworkRow (content : Content) (network : Block) (row : NetworkRow) : Type 0 where
  pub counted : List SystemCounts
  pub are : AreCountsOfSite content network counted
  pub own : row.network ≡ network
  pub alike : row.alike ≡ alike_of network counted
  pub parts : row.parts ≡ parts_of network counted

-- That of each of some networks, in their order.
pub record AreNetworkRows (content : Content) (networks : List Block) (rows : List NetworkRow) : Type 0 where
  pub count : length rows ≡ length networks
  pub each : (place : ℕ) (network : Block) (row : NetworkRow) → place < length networks
      → IsNetworkRow content (slice_index_or networks place network) (slice_index_or rows place row)
