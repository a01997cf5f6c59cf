-- What the private contracts and invariants of marked directories cite.
use Rattle.std.specs.Prelude.{◌≡◌, ℕ, ◌+◌, ◌*◌, ◌/◌, ◌%◌, ◌^◌, ◌<◌, ◌≤◌, ◌==◌, ◌&&◌, ◌⊎◌, All, Bool, false, true, List, [], ◌∷◌, Option, None, Some, length, nat_le, slice_get, slice_index_or, if◌then◌else◌}
use Rattle.std.specs.List.{AllPairs}
use Rattle.desk_text.specs.Path.{path_text, same_path}
use Rattle.desk_exports.specs.declared.entry.Clients.{Clients}
use Rattle.desk_exports.specs.declared.entry.Clients.TheVariants as clients
use Rattle.desk_policy.specs.Verdict.{lists_here}
use Rattle.desk_policy.specs.declared.row.Row.{Row}
use Rattle.desk_index.specs.PrivateSlot.{Keeps}
use Rattle.desk_index.specs.declared.marks.Group.{Group}
use Rattle.desk_index.specs.declared.marks.Group.TheVariants as groups
use Rattle.desk_index.specs.declared.marks.Marks.{Marks}
use Rattle.desk_index.specs.declared.marks.Spot.{Spot}

-- Lines for one network are a group, and so are those for everybody; any other line is a group by itself.
abbrev pub group_by : Clients → ℕ → Group
group_by (clients.Hosts names) line = groups.Line line
group_by (clients.Net net noted) line = groups.Network net.first net.prefix
group_by (clients.Net6 value) line = groups.Line line
group_by clients.World line = groups.Everybody

abbrev pub group_of : Row → Group
group_of row = group_by row.entry.clients row.entry.line

abbrev pub is_one_line : Group → Bool
is_one_line (groups.Line line) = true
is_one_line (groups.Network first prefix) = false
is_one_line groups.Everybody = false

abbrev pub same_group : Group → Group → Bool
same_group (groups.Line line) (groups.Line other) = line == other
same_group (groups.Line line) (groups.Network first prefix) = false
same_group (groups.Line line) groups.Everybody = false
same_group (groups.Network first prefix) (groups.Line line) = false
same_group (groups.Network first prefix) (groups.Network another length) = first == another && prefix == length
same_group (groups.Network first prefix) groups.Everybody = false
same_group groups.Everybody (groups.Line line) = false
same_group groups.Everybody (groups.Network first prefix) = false
same_group groups.Everybody groups.Everybody = true

-- a line of this group lists the path
abbrev pub lists_at : Group → List (List ℕ) → Row → Bool
lists_at group path row = same_group (group_of row) group && lists_here path row

-- the directory, if there is one, is this one; without one, the line has -alldirs
abbrev pub is_named : Option (List (List ℕ)) → Bool → List (List ℕ) → Bool
is_named None alldirs path = alldirs
is_named (Some dir) alldirs path = same_path dir path

-- the directory at a place of the line is this one; behind the last one, the line has -alldirs
abbrev pub names_at : Row → ℕ → List (List ℕ) → Bool
names_at row place path = is_named (slice_get row.entry.dirs place) row.entry.alldirs path

-- the line, if there is one, is of the group, and lists the path by its directory at a place
abbrev pub row_passes : Group → List (List ℕ) → ℕ → Option Row → Bool
row_passes group path dir None = false
row_passes group path dir (Some row) = same_group (group_of row) group && names_at row dir path

abbrev pub spot_passes : List Row → Group → List (List ℕ) → Option Spot → Bool
spot_passes rows group path None = false
spot_passes rows group path (Some spot) = row_passes group path spot.dir (slice_get rows spot.row)

-- the directory of this number is of a line of the group, which lists the path by it
abbrev pub passes_at : List Row → List Spot → Group → List (List ℕ) → ℕ → Bool
passes_at rows spots group path number = spot_passes rows group path (slice_get spots number)

-- the lesser number, if there is one
abbrev pub first_of : Option ℕ → Option ℕ → Option ℕ
first_of None other = other
first_of (Some number) None = Some number
first_of (Some number) (Some another) = Some (if nat_le number another then number else another)

-- a step of a mark
unfoldable pub step : ℕ → ℕ → ℕ
step mark next = (mark * 11400714819323198485 % 2 ^ 64 + next) % 2 ^ 64

abbrev pub steps : ℕ → List ℕ → ℕ
steps mark [] = mark
steps mark (byte ∷ text) = steps (step mark byte) text

-- what the marks of a group begin with
abbrev pub seed_of : Group → ℕ
seed_of (groups.Line line) = step 0 line
seed_of (groups.Network first prefix) = step (prefix + 2) first
seed_of groups.Everybody = step 1 0

-- the mark of a group and a text
unfoldable pub mark_of : Group → List ℕ → ℕ
mark_of group text = step (steps (seed_of group) text) 0 / 2 ^ 32

abbrev pub text_of : Option (List (List ℕ)) → List ℕ
text_of None = []
text_of (Some dir) = path_text dir

-- the text of the directory at a place of the line, none behind the last one
abbrev pub text_at : Row → ℕ → List ℕ
text_at row place = text_of (slice_get row.entry.dirs place)

-- the line has a directory at this place, or it is the next place, and the line has -alldirs
abbrev pub IsWritten : Row → ℕ → Type 0
IsWritten row place = (place < length row.entry.dirs) ⊎ ((place ≡ length row.entry.dirs) × (row.entry.alldirs ≡ true))

-- a directory of a line before this one, or one of the first so many of this one
abbrev pub IsBefore : ℕ → ℕ → ℕ → ℕ → Type 0
IsBefore place dir row dirs = (place < row) ⊎ ((place ≡ row) × (dir < dirs))

-- a number, at which are the mark and the places of a directory
pub record IsMarkedAt (pairs : List (ℕ × ℕ)) (spots : List Spot) (mark place dir : ℕ) : Type 0 where
  pub number : ℕ
  pub within : number < length spots
  pub pair : (d : ℕ × ℕ) → slice_index_or pairs number d ≡ (mark, number)
  pub spot : (d : Spot) → slice_index_or spots number d ≡ record { row = place; dir = dir }

-- the directories of the lines before a place, and the first so many of the line there, have marks, in their order
pub record AreMarked (pairs : List (ℕ × ℕ)) (spots : List Spot) (rows : List Row) (row dirs : ℕ) : Type 0 where
  pub each : length pairs ≡ length spots
  pub numbers : (k : ℕ) (d : ℕ × ℕ) → k < length pairs → (slice_index_or pairs k d).1 ≡ k
  pub rising : AllPairs (λ one later. one.row ≤ later.row) spots
  pub below : All (λ spot. spot.row ≤ row) spots
  pub all : (place dir : ℕ) (d : Row) → place < length rows → IsWritten (slice_index_or rows place d) dir → IsBefore place dir row dirs
      → IsMarkedAt pairs spots (mark_of (group_of (slice_index_or rows place d)) (text_at (slice_index_or rows place d) dir)) place dir

-- all directories of lines are marked
pub record KeepsMarks (marks : Marks) (rows : List Row) : Type 0 where
  pub pairs : List (ℕ × ℕ)
  pub by_mark : Keeps marks.by_mark pairs
  pub marked : AreMarked pairs marks.spots.items rows (length rows) 0
