-- Places of slices of a text. (this project's own)
use Rattle.std.specs.Prelude.{◌≡◌, ℕ, ◌+◌, ◌-◌, ◌<◌, ◌≤◌, List, [], Some, length, slice_get, slice_index_or}
use Rattle.std.specs.Str.{IsCharBoundary}
use Rattle.std.specs.Str.Lines.{lines}
use Rattle.desk_text.specs.Lines.{LogicalLine, PhysicalLine}
use Rattle.desk_text.specs.declared.place.Place.{Place}

-- The slice of this line from start to end is text: it begins and ends where a character begins, or where the line ends.
pub record LiesWithin (line : List ℕ) (place : Place) : Type 0 where
  pub ordered : place.start ≤ place.end
  pub begins : IsCharBoundary line place.start
  pub ends : IsCharBoundary line place.end

-- the physical line of this number, from 1, without its line end
abbrev pub line_at : List ℕ → ℕ → List ℕ
line_at text number = slice_index_or (lines text) (number - 1) []

-- The text has that physical line, and that slice of it.
pub record LiesIn (text : List ℕ) (place : Place) : Type 0 where
  pub counted : 0 < place.line
  pub exists : place.line ≤ length (lines text)
  pub within : LiesWithin (line_at text place.line) place

-- the place is on a physical line of this logical line
pub record IsOfLine (line : LogicalLine) (place : Place) : Type 0 where
  pub from : line.number ≤ place.line
  pub to : place.line < line.number + length line.parts

-- the place, on the physical line of this number, of the bytes of the whole text from start to end
abbrev pub place_on : ℕ → PhysicalLine → ℕ → ℕ → Place
place_on number part start end = record { line = number; start = start - part.start; end = end - part.start }

-- the physical line has the bytes of the whole text from start to end, and they are text
pub record HasSlice (part : PhysicalLine) (start end : ℕ) : Type 0 where
  pub behind : part.start ≤ start
  pub ordered : start ≤ end
  pub begins : IsCharBoundary part.whole (start - part.start)
  pub ends : IsCharBoundary part.whole (end - part.start)

-- The place is that of the bytes of the whole text from start to end, which lie on a physical line of this logical line.
pub record IsPlaceOf (line : LogicalLine) (start end : ℕ) (place : Place) : Type 0 where
  pub index : ℕ
  pub part : PhysicalLine
  pub there : slice_get line.parts index ≡ Some part
  pub has : HasSlice part start end
  pub is : place ≡ place_on (line.number + index) part start end
