-- What the private contracts of finding faults cite.
use Rattle.std.specs.Prelude.{◌≡◌, ℕ, ◌++◌, List, [], Option, Ok, map}
use Rattle.std.specs.List.{All, cons_option}
use Rattle.desk_text.specs.Lines.{LogicalLine}
use Rattle.desk_text.specs.Reading.{AnsweredLine, fault_at, fault_of}
use Rattle.desk_text.specs.declared.reading.LineFault.{LineFault}
use Rattle.desk_tables.specs.declared.filesystems.FsId.{FsId}
use Rattle.desk_exports.specs.Files.{words_say}
use Rattle.desk_exports.specs.Places.{IsOnLine}
use Rattle.desk_exports.specs.Tables.{TableRows}
use Rattle.desk_exports.specs.declared.entry.Entry.{Entry}
use Rattle.desk_exports.specs.declared.faults.PlacedFault.{PlacedFault}
use Rattle.desk_exports.specs.declared.files.Scope.{Scope}
use Rattle.desk_exports.specs.declared.grammar.GrammarLine.{GrammarLine}
use Rattle.desk_exports.specs.declared.rules.Rule.{Rule}

-- the fault is that of a line with this number, at a place on it
pub record IsFaultOn (line : LogicalLine) (placed : PlacedFault) : Type 0 where
  pub number : placed.fault.line ≡ line.number
  pub place : IsOnLine line placed.place

-- the fault of a line of these parts, if it has one
abbrev pub words_fault : TableRows → Scope → ℕ → GrammarLine → Option (LineFault Rule)
words_fault tables scope number parts = fault_at {X = FsId × Entry} number (words_say tables scope number (Ok parts))

-- The fault of a line was added, if it has one, at a place on that line.
pub record AddsFault (old new : List PlacedFault) (line : LogicalLine) (answered : AnsweredLine (FsId × Entry) Rule) : Type 0 where
  pub added : List PlacedFault
  pub are : new ≡ old ++ added
  pub fault : map (λ one. one.fault) added ≡ cons_option (fault_of answered) []
  pub placed : All (IsFaultOn line) added
