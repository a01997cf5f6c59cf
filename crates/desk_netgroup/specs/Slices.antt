-- Where the words of a netgroup line stand. (this project's own)
use Rattle.std.specs.Prelude.{ℕ, List}
use Rattle.std.specs.List.{IsAmong}
use Rattle.desk_text.specs.Lines.{LogicalLine, logical_lines}
use Rattle.desk_text.specs.Place.{IsOfLine, LiesIn}
use Rattle.desk_text.specs.declared.place.Place.{Place}

-- the place lies in each text that has the line, on a physical line of it
pub record IsOnLine (line : LogicalLine) (place : Place) : Type 0 where
  pub lies : (text : List ℕ) → IsAmong (logical_lines text) line → LiesIn text place
  pub own : (text : List ℕ) → IsAmong (logical_lines text) line → IsOfLine line place
