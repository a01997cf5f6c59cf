-- What the private contracts of what is odd cite.
use Rattle.std.specs.Prelude.{◌≡◌, ℕ, All, List, Option, None, Some, slice_get}
use Rattle.std.specs.List.{IsAmong}
use Rattle.desk_text.specs.Lines.{LogicalLine, logical_lines}
use Rattle.desk_text.specs.declared.place.Place.{Place}
use Rattle.desk_findings.specs.CheckOdd.{IsAtWord, IsOn}
use Rattle.desk_findings.specs.declared.check_odd.Among.{Among}
use Rattle.desk_findings.specs.declared.check_odd.PlacedWords.{PlacedWords}

-- the place is that of the word of this index; without a place there is no such word, wherever it would be told
abbrev pub IsAtIndex : LogicalLine → Among → ℕ → Option Place → Type 0
IsAtIndex line kind index (Some place) = IsAtWord line kind index place
IsAtIndex line kind index None = (place : Place) → IsAtWord line kind index place

-- these are the places of these words of the line, in order
abbrev pub AreOfWords : LogicalLine → Among → List Place → Type 0
AreOfWords line kind places = (index : ℕ) → IsAtIndex line kind index (slice_get places index)

-- and they are on the line, of this text
pub record AreWordsOn (text : List ℕ) (line : LogicalLine) (kind : Among) (places : List Place) : Type 0 where
  pub on : All (IsOn text line) places
  pub are : AreOfWords line kind places

-- these are the places of the words of the line of that number, if these are the lines of a text
abbrev pub AreWordsIn : List LogicalLine → PlacedWords → Type 0
AreWordsIn lines placed =
    (text : List ℕ) → lines ≡ logical_lines text → (line : LogicalLine) → IsAmong lines line → line.number ≡ placed.line → AreWordsOn text line placed.among placed.places.items
