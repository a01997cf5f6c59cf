-- All faults of a text of expectations, each with the place of the word at fault. (this project's own)
use Rattle.std.specs.Prelude.{◌≡◌, ◌↔◌, ℕ, List, Some, Ok, Err, map, slice_get}
use Rattle.std.specs.List.{All, IsAmong, filter_map}
use Rattle.desk_text.specs.Lines.{LogicalLine, logical_lines}
use Rattle.desk_text.specs.Place.{IsOfLine, LiesIn}
use Rattle.desk_text.specs.Reading.{fault_of}
use Rattle.desk_text.specs.declared.reading.LineFault.{LineFault}
use Rattle.desk_tables.specs.declared.hosts.HostRow.{HostRow}
use Rattle.desk_netgroup.specs.declared.group_line.GroupLine.{GroupLine}
use Rattle.desk_expect.specs.Faults.{IsAtWord, word_at_fault}
use Rattle.desk_expect.specs.Reading.{answered, line_values, read_promises}
use Rattle.desk_expect.specs.declared.rules.PlacedFault.{PlacedFault}
use Rattle.desk_expect.specs.declared.rules.Rule.{Rule}

-- the faults of these lines: each line that breaks a rule, in their order, with the first rule that it breaks
abbrev pub faults_of : List GroupLine → List HostRow → List LogicalLine → List (LineFault Rule)
faults_of netgroups hosts lines = filter_map fault_of (map (answered netgroups hosts) lines)

-- the faults of a text of expectations
abbrev pub text_faults : List GroupLine → List HostRow → List ℕ → List (LineFault Rule)
text_faults netgroups hosts text = faults_of netgroups hosts (logical_lines text)

-- The fault is told at a place of the text, on a physical line of the logical line that has its number: at that of the word at fault, if
-- each quote of the line closes.
pub record IsPlaced (netgroups : List GroupLine) (hosts : List HostRow) (text : List ℕ) (placed : PlacedFault) : Type 0 where
  pub line : LogicalLine
  pub among : IsAmong (logical_lines text) line
  pub number : placed.fault.line ≡ line.number
  pub own : IsOfLine line placed.place
  pub lies : LiesIn text placed.place
  pub word : (words : List (List ℕ)) → line_values line ≡ Ok words → IsAtWord line (word_at_fault netgroups hosts words placed.fault.rule) placed.place

-- these are the faults of the text, no more and no fewer, in the order of its lines, each at its place
pub record AreFaultsIn (netgroups : List GroupLine) (hosts : List HostRow) (text : List ℕ) (found : List PlacedFault) : Type 0 where
  pub faults : map (λ one. one.fault) found ≡ text_faults netgroups hosts text
  pub placed : All (IsPlaced netgroups hosts text) found

-- A text is refused with a fault exactly if that is the first of its faults.
abbrev pub FirstOfFaultsIsReported : Type 0
FirstOfFaultsIsReported =
    (netgroups : List GroupLine) (hosts : List HostRow) (text : List ℕ) (fault : LineFault Rule)
    → (read_promises netgroups hosts text ≡ Err fault) ↔ (slice_get (text_faults netgroups hosts text) 0 ≡ Some fault)
