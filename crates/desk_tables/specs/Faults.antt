-- The faults of a table, each with the place of the slice at fault. (this project's own)
use Rattle.std.specs.Prelude.{◌≡◌, ◌⊎◌, ℕ, List, None, Some}
use Rattle.std.specs.List.{IsAmong}
use Rattle.desk_text.specs.Lines.{LogicalLine, logical_lines}
use Rattle.desk_text.specs.Place.{IsOfLine, LiesIn}
use Rattle.desk_text.specs.declared.place.Place.{Place}
use Rattle.desk_tables.specs.declared.faults.PlacedFault.{PlacedFault}

-- The fault is told at a place of the text, on the line that has its number.
pub record IsPlaced (text : List ℕ) (placed : PlacedFault) : Type 0 where
  pub place : Place
  pub there : placed.place ≡ Some place
  pub number : place.line ≡ placed.fault.line
  pub lies : LiesIn text place

-- The fault is told at a place of the text, on a physical line of the logical line that has its number.
pub record IsOnLine (text : List ℕ) (placed : PlacedFault) : Type 0 where
  pub line : LogicalLine
  pub among : IsAmong (logical_lines text) line
  pub number : placed.fault.line ≡ line.number
  pub place : Place
  pub there : placed.place ≡ Some place
  pub own : IsOfLine line place
  pub lies : LiesIn text place

-- The fault is that of a line, or of the table as a whole, which has line 0 and no place.
abbrev pub IsOnLineOrWhole : List ℕ → PlacedFault → Type 0
IsOnLineOrWhole text placed = IsOnLine text placed ⊎ ((placed.fault.line ≡ 0) × (placed.place ≡ None))
