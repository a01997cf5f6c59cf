-- What the private contracts of the lines cite.
use Rattle.std.specs.Prelude.{◌≡◌, ℕ, ◌+◌, ◌<◌, ◌≤◌, ◌==◌, ◌^◌, List, [], ◌∷◌, Option, None, Some, length, map}
use Rattle.std.specs.List.{slice_split}
use Rattle.desk_text.specs.Lines.{ArePlaced, LogicalLine, PhysicalLine, groups, is_continued, kept, longest_text, numbered, physical_lines_from}
use Rattle.desk_text.specs.declared.lines.Group.{Group}
use Rattle.desk_text.specs.declared.lines.Group.TheVariants.{One, Many}
use Rattle.desk_text.specs.declared.lines.Part.{Part}
use Rattle.desk_text.specs.declared.lines.Physical.{Physical}
use Rattle.desk_text.specs.declared.lines.PhysicalLines.{PhysicalLines}
use Rattle.desk_text.specs.Views.{line_of_part}

-- the physical lines of a group
abbrev pub members : Group → List Part
members (One part) = part ∷ []
members (Many parts) = parts.items

-- physical lines of which the first has this number: their places and their numbers are below 2^32
pub record AreAtNumber (number : ℕ) (parts : List PhysicalLine) : Type 0 where
  pub placed : ArePlaced parts
  pub counted : number + length parts < 2 ^ 32

-- the physical lines that are left
abbrev pub parts_left : PhysicalLines → List PhysicalLine
parts_left left = physical_lines_from left.start (slice_split (λ b. b == 10) left.rest.now)

-- the logical lines that are left, the first physical line of which has this number
abbrev pub lines_left : ℕ → PhysicalLines → List LogicalLine
lines_left number left = kept (numbered number (groups (parts_left left)))

-- the places of what is left are below 2^32
abbrev pub HasPlaces : PhysicalLines → Type 0
HasPlaces left = left.start + length left.rest.now ≤ longest_text

-- there is a number for each line that is left: a line takes at least one byte
pub record CanBeCounted (number : ℕ) (left : PhysicalLines) : Type 0 where
  pub places : HasPlaces left
  pub counted : number ≤ left.start + 1

-- what is left comes later in the text, and still has places
pub record IsOnward (old new : PhysicalLines) : Type 0 where
  pub later : old.start ≤ new.start
  pub places : HasPlaces new

-- a physical line was taken away
pub record TakesOne (old new : PhysicalLines) (line : Physical) : Type 0 where
  pub is : parts_left old ≡ line_of_part line.part ∷ parts_left new
  pub goes_on : line.goes_on ≡ is_continued line.part.whole.now
  pub placed : line.part.start + length line.part.text.now < 2 ^ 32
  pub later : old.start < new.start

abbrev pub Takes : PhysicalLines → PhysicalLines → Option Physical → Type 0
Takes old new None = (parts_left old ≡ []) × (new ≡ old)
Takes old new (Some line) = TakesOne old new line

-- the lines in which the first goes on were taken away
pub record TakesRest (first : Part) (old new : PhysicalLines) (parts : List Part) : Type 0 where
  pub is : groups (line_of_part first ∷ parts_left old) ≡ map line_of_part parts ∷ groups (parts_left new)
  pub placed : ArePlaced (map line_of_part parts)
  pub counted : old.start + length parts ≤ new.start + 1

-- a group was taken away
pub record TakesMembers (old new : PhysicalLines) (parts : List Part) : Type 0 where
  pub is : groups (parts_left old) ≡ map line_of_part parts ∷ groups (parts_left new)
  pub placed : ArePlaced (map line_of_part parts)
  pub counted : old.start + length parts ≤ new.start
  pub later : old.start < new.start

abbrev pub TakesGroup : PhysicalLines → PhysicalLines → Option Group → Type 0
TakesGroup old new None = groups (parts_left old) ≡ []
TakesGroup old new (Some group) = TakesMembers old new (members group)
