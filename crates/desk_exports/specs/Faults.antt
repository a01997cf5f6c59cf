-- The faults of a text, each with the place of the slice at fault. (this project's own)
use Rattle.std.specs.Prelude.{◌≡◌, ℕ, List}
use Rattle.std.specs.List.{IsAmong}
use Rattle.desk_text.specs.Lines.{LogicalLine, logical_lines}
use Rattle.desk_text.specs.Place.{IsOfLine, LiesIn}
use Rattle.desk_exports.specs.declared.faults.PlacedFault.{PlacedFault}

-- The fault is told at a place of the text, on a physical line of the logical line that has its number.
pub record IsPlaced (text : List ℕ) (placed : PlacedFault) : Type 0 where
  pub line : LogicalLine
  pub among : IsAmong (logical_lines text) line
  pub number : placed.fault.line ≡ line.number
  pub own : IsOfLine line placed.place
  pub lies : LiesIn text placed.place
