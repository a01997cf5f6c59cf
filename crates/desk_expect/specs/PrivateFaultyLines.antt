-- What the private contracts of all faults cite.
use Rattle.std.specs.Prelude.{◌≡◌, ℕ, ◌++◌, List, [], Ok, map}
use Rattle.std.specs.List.{All, IsAmong, cons_option}
use Rattle.desk_text.specs.Lines.{LogicalLine, logical_lines}
use Rattle.desk_text.specs.Place.{IsOfLine, LiesIn}
use Rattle.desk_text.specs.Reading.{fault_of}
use Rattle.desk_tables.specs.declared.hosts.HostRow.{HostRow}
use Rattle.desk_netgroup.specs.declared.group_line.GroupLine.{GroupLine}
use Rattle.desk_expect.specs.Faults.{IsAtWord, word_at_fault}
use Rattle.desk_expect.specs.Reading.{answered, line_values}
use Rattle.desk_expect.specs.declared.rules.PlacedFault.{PlacedFault}

-- the fault is told on this line, at the word at fault
pub record IsFaultOn (netgroups : List GroupLine) (hosts : List HostRow) (line : LogicalLine) (placed : PlacedFault) : Type 0 where
  pub number : placed.fault.line ≡ line.number
  pub own : (text : List ℕ) → IsAmong (logical_lines text) line → IsOfLine line placed.place
  pub lies : (text : List ℕ) → IsAmong (logical_lines text) line → LiesIn text placed.place
  pub word : (words : List (List ℕ)) → line_values line ≡ Ok words → IsAtWord line (word_at_fault netgroups hosts words placed.fault.rule) placed.place

-- The fault of a line was added, if it has one, at a place on that line.
pub record AddsFault (netgroups : List GroupLine) (hosts : List HostRow) (line : LogicalLine) (old new : List PlacedFault) : Type 0 where
  pub added : List PlacedFault
  pub are : new ≡ old ++ added
  pub fault : map (λ one. one.fault) added ≡ cons_option (fault_of (answered netgroups hosts line)) []
  pub placed : All (IsFaultOn netgroups hosts line) added
