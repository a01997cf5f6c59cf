-- What `check` tells of texts without a fault: the lines that contradict an earlier one, the words that are odd, and what is said
-- of lines. (this project's own)
use Rattle.std.specs.Prelude.{◌≡◌, ℕ, ◌+◌, ◌++◌, ◌<◌, ◌^◌, List, [], ◌∷◌, None, Some, Option, IfSome, Result, Ok, Err, length, map, slice_get, ⊤}
use Rattle.std.specs.List.{IsAmong}
use Rattle.std.specs.List.Sorted.{IsNonDecreasingBy, IsPermutation}
use Rattle.std.specs.Option.{option_copied}
use Rattle.desk_text.specs.Lines.{LogicalLine, PhysicalLine, logical_lines}
use Rattle.desk_text.specs.Place.{HasSlice, IsOfLine, IsPlaceOf, LiesIn}
use Rattle.desk_text.specs.Word.{RawWord, read_words}
use Rattle.desk_text.specs.declared.place.Place.{Place}
use Rattle.desk_text.specs.declared.word.OpenQuote.{OpenQuote}
use Rattle.desk_policy.specs.Contradiction.{AreContradictions}
use Rattle.desk_policy.specs.declared.contradiction.Contradiction.{Contradiction}
use Rattle.desk_policy.specs.declared.row.Row.{Row}
use Rattle.desk_policy.specs.declared.warning.Warning.{Warning}
use Rattle.desk_remarks.specs.declared.remark.LineRemark.{LineRemark}
use Rattle.desk_findings.specs.CheckFaults.{Tells}
use Rattle.desk_findings.specs.Told.{Told, tell_about}
use Rattle.desk_findings.specs.declared.check_faults.Source.{Source}
use Rattle.desk_findings.specs.declared.check_odd.Among.{Among}
use Rattle.desk_findings.specs.declared.check_odd.Among.TheVariants.{Clients, Members, Words}
use Rattle.desk_findings.specs.declared.check_odd.Odd.{Odd}
use Rattle.desk_findings.specs.declared.check_odd.Spot.{Spot}
use Rattle.desk_findings.specs.declared.finding.Matter.{Matter}
use Rattle.desk_findings.specs.declared.finding.Matter.TheVariants as matter

-- what is odd about the line of a number, the word that it is told at (the one of this index, from 0, among these words of the
-- line), and the directory that it is about, if it is about one
pub record OddLine : Type 0 where
  pub line : ℕ
  pub matter : Matter
  pub among : Among
  pub index : ℕ
  pub directory : Option (List (List ℕ))

-- what is odd about a line and about no directory, told at the word of this index among all words of the line
abbrev pub odd_word : ℕ → Matter → ℕ → OddLine
odd_word line matter index = record { line = line; matter = matter; among = Words; index = index; directory = None }

-- the same, told at the first word
abbrev pub odd_line : ℕ → Matter → OddLine
odd_line line matter = odd_word line matter 0

abbrev pub odd_at : Odd → OddLine
odd_at odd = record { line = odd.line; matter = odd.matter; among = odd.among; index = odd.index; directory = option_copied odd.directory }

abbrev pub odd_of_spot : Spot → OddLine
odd_of_spot spot = record { line = spot.line; matter = spot.matter; among = spot.among; index = spot.index; directory = option_copied spot.directory }

-- a contradiction and a remark are told at the first word of their line, a warning at its own word among these
abbrev pub odd_of_contradiction : Contradiction → OddLine
odd_of_contradiction one = odd_line one.line (matter.Contradiction one.other one.address)

abbrev pub odd_of_warning : Among → Warning → OddLine
odd_of_warning among one = record { line = one.line; matter = matter.Warning one.kind; among = among; index = one.index; directory = None }

abbrev pub odd_of_remark : LineRemark → OddLine
odd_of_remark one = record { line = one.line; matter = matter.Remark one.remark one.example; among = Words; index = 0; directory = one.directory }

-- the place lies in the text, on a physical line of this logical line
pub record IsOn (text : List ℕ) (line : LogicalLine) (place : Place) : Type 0 where
  pub own : IsOfLine line place
  pub lies : LiesIn text place

-- the place lies in the text, on a physical line of the logical line of this number
pub record IsOnNumbered (text : List ℕ) (number : ℕ) (place : Place) : Type 0 where
  pub line : LogicalLine
  pub among : IsAmong (logical_lines text) line
  pub same : line.number ≡ number
  pub on : IsOn text line place

-- the word of this index, from 0, of a line that is cut into these words; none if there is none, or if a quote does not close
abbrev pub word_numbered : ℕ → Result (List RawWord) OpenQuote → Option RawWord
word_numbered index (Ok words) = slice_get words index
word_numbered index (Err fault) = None

-- if a physical line of this line has the bytes of this word, the place is that of these bytes, on that physical line
abbrev pub IsOfWord : LogicalLine → Place → RawWord → Type 0
IsOfWord line place word =
    word.start + length word.raw < 2 ^ 64 → (index : ℕ) (part : PhysicalLine) → slice_get line.parts index ≡ Some part → HasSlice part word.start (word.start + length word.raw)
    → IsPlaceOf line word.start (word.start + length word.raw) place

-- The place is that of the word of this index among these words of a line, if the line has it. (Which place a client or a member has
-- is not said here.)
abbrev pub IsAtWord : LogicalLine → Among → ℕ → Place → Type 0
IsAtWord line Words index place = IfSome (word_numbered index (read_words line)) (IsOfWord line place)
IsAtWord line Clients index place = ⊤
IsAtWord line Members index place = ⊤

-- the place is on the line of this number, at that word
pub record IsToldAt (text : List ℕ) (number : ℕ) (kind : Among) (index : ℕ) (place : Place) : Type 0 where
  pub line : LogicalLine
  pub among : IsAmong (logical_lines text) line
  pub same : line.number ≡ number
  pub on : IsOn text line place
  pub word : IsAtWord line kind index place

-- the text has no line of this number
abbrev pub HasNoLine : List ℕ → ℕ → Type 0
HasNoLine text number = (line : LogicalLine) → IsAmong (logical_lines text) line → line.number ≡ number → ⊥

-- What is odd about a line is told on it, at its word. It has no place only if the text has no such line.
abbrev pub IsToldOn : List ℕ → ℕ → Among → ℕ → Option Place → Type 0
IsToldOn text number kind index (Some place) = IsToldAt text number kind index place
IsToldOn text number kind index None = HasNoLine text number

abbrev pub IsSpot : List ℕ → Spot → Type 0
IsSpot text spot = IsToldOn text spot.line spot.among spot.index spot.place

abbrev pub tell_spot : Source → Spot → Told
tell_spot source spot = tell_about source spot.place spot.matter (option_copied spot.directory)

-- What is told is this, in the order of its lines, each at its word of its own line.
pub record TellInOrder (source : Source) (given : List OddLine) (all : List Told) : Type 0 where
  pub odds : List OddLine
  pub same : IsPermutation given odds
  pub order : IsNonDecreasingBy (λ odd. odd.line) odds
  pub tell : Tells odd_of_spot (IsSpot source.text.now) (tell_spot source) odds all

-- what these contradictions, warnings and remarks of a text say, in that order; the warnings count their words among these
abbrev pub odds_of : Among → List Contradiction → List Warning → List LineRemark → List OddLine
odds_of among contradictions warnings remarks = map odd_of_contradiction contradictions ++ (map (odd_of_warning among) warnings ++ map odd_of_remark remarks)

-- what is told is that
abbrev pub TellOdds : Among → Source → List Contradiction → List Warning → List LineRemark → List Told → Type 0
TellOdds among source contradictions warnings remarks all = TellInOrder source (odds_of among contradictions warnings remarks) all

-- these are the contradictions of each of these files in turn
abbrev pub AreContradictionsIn : List (List Row) → List Contradiction → Type 0
AreContradictionsIn [] found = found ≡ []
AreContradictionsIn (rows ∷ files) found =
    (own : List Contradiction) × (others : List Contradiction) × (AreContradictions rows rows own × (AreContradictionsIn files others × (found ≡ own ++ others)))
