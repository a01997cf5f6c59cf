-- What is said of each logical line of the text of a file. (this project's own, over exports(5))
use Rattle.std.specs.Prelude.{ℕ, ◌<◌, ◌==◌, List, [], ◌∷◌, Option, Some, None, find, if◌then◌else◌}
use Rattle.std.specs.List.{AllPairs, filter_map}
use Rattle.std.specs.Option.{option_map}
use Rattle.desk_text.specs.Lines.{LogicalLine, logical_lines}
use Rattle.desk_exports.specs.Laws.{takes_part}
use Rattle.page_data.specs.Class.{class_of_terms}
use Rattle.page_data.specs.Reasons.{are_all}
use Rattle.page_data.specs.declared.reasons.Reason.{Reason}
use Rattle.page_data.specs.declared.reasons.Reason.TheVariants as reasons
use Rattle.page_findings.specs.Findings.{stands_out}
use Rattle.page_findings.specs.Lines.{LineValue}
use Rattle.page_filesystem.specs.declared.gutter.Note.{Note}
use Rattle.page_filesystem.specs.declared.gutter.Said.{Said}
use Rattle.page_filesystem.specs.declared.gutter.Told.{Told}
use Rattle.page_filesystem.specs.declared.gutter.Said.TheVariants.{Grants, MatchesNobody, NeverDecides}

-- what a line grants, whether it is for everybody, and to how many addresses it grants something
abbrev pub granted : LineValue → Said
granted line = Grants (class_of_terms line.row.entry.terms) (are_all line.row.entry.clients) line.count

-- a line that decides nothing stands out for that alone; any other grants something
abbrev pub said_by : LineValue → Reason → Said
said_by line reasons.NoClient = MatchesNobody
said_by line reasons.NeverDecides = NeverDecides
said_by line _ = granted line

-- the same, by the first of the reasons for which it stands out, if it does
abbrev pub said_for : LineValue → List Reason → Said
said_for line [] = granted line
said_for line (reason ∷ others) = said_by line reason

-- what is told of a line of the file system
abbrev pub site_line_told : LineValue → Told
site_line_told line = record { said = said_for line line.reasons; stands_out = stands_out line }

abbrev pub site_line_note : LineValue → Note
site_line_note line = record { line = line.row.entry.line; told = Some (site_line_told line) }

-- that a line is not read
abbrev pub not_read : ℕ → Note
not_read number = record { line = number; told = None }

-- the line of a file system with this number
abbrev pub line_at : List LineValue → ℕ → Option LineValue
line_at lines number = find (λ line. line.row.entry.line == number) lines

-- what is said of a logical line, by the number of its first physical line: one that takes no part, as one of `V4:`, is not
-- read
abbrev pub logical_line_note : List LineValue → LogicalLine → Option Note
logical_line_note lines line = if takes_part line then option_map site_line_note (line_at lines line.number) else Some (not_read line.number)

-- The notes on a text, given the lines of the file system: if these are the lines of the text, one on each logical line, in their order.
abbrev pub notes_of : List LineValue → List ℕ → List Note
notes_of lines text = filter_map (logical_line_note lines) (logical_lines text)

-- lines of a file system in the order of their numbers, each number once
abbrev pub LinesAscend : List LineValue → Type 0
LinesAscend lines = AllPairs (λ line later. line.row.entry.line < later.row.entry.line) lines

-- and notes
abbrev pub NotesAscend : List Note → Type 0
NotesAscend notes = AllPairs (λ note later. note.line < later.line) notes
