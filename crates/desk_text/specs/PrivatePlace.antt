-- What the private contracts of places cite.
use Rattle.std.specs.Prelude.{◌≡◌, ℕ, ◌+◌, Some, slice_get}
use Rattle.desk_text.specs.Lines.{LogicalLine, PhysicalLine}
use Rattle.desk_text.specs.Place.{LiesWithin}
use Rattle.desk_text.specs.declared.place.Place.{Place}

-- the place lies on the physical line that stands at this index of a logical line
pub record IsOnPart (line : LogicalLine) (place : Place) : Type 0 where
  pub index : ℕ
  pub part : PhysicalLine
  pub there : slice_get line.parts index ≡ Some part
  pub number : place.line ≡ line.number + index
  pub within : LiesWithin part.whole place
