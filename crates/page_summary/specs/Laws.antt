-- What is told of the lines that never decide, and in which row a line stands. (this project's own)
use Rattle.std.specs.Prelude.{◌≡◌, ◌↔◌, All, Contains, List, true}
use Rattle.desk_policy.specs.Policy.{AreAscending, Content, rows_of}
use Rattle.page_data.specs.Lines.{AreLineReasons}
use Rattle.page_data.specs.declared.lines.LineReasons.{LineReasons}
use Rattle.page_findings.specs.Deciding.{AreDecidedFor, AreDeciding, DecidedFor, deciding_of, never_decides}
use Rattle.page_findings.specs.Lines.{IsLineOf, LineValue}
use Rattle.page_summary.specs.SharedRows.{AreSharedRows, told}
use Rattle.page_summary.specs.declared.findings.FindingRow.{FindingRow}

-- The lines that are named in place of one that never decides are just those that decide for its clients.
abbrev pub NamedLinesDecide : Type 0
NamedLinesDecide =
    (content : Content) (line : LineValue) (reasons : List LineReasons) (found : List DecidedFor) → AreAscending (rows_of content line.fs)
    → Contains (rows_of content line.fs) line.row → IsLineOf content line → AreLineReasons content line.fs reasons
    → AreDecidedFor content line.fs reasons found
    → never_decides line.reasons ≡ true → AreDeciding content line.fs line.row (deciding_of line.row.entry.line found)

-- a line is in one row and no other, and with it are just the lines that are told by the same text
pub record IsInOneRow (lines : List FindingRow) (rows : List (List FindingRow)) (line : FindingRow) : Type 0 where
  pub row : List FindingRow
  pub listed : Contains rows row
  pub has : Contains row line
  pub only : (other : List FindingRow) → Contains rows other → Contains other line → other ≡ row
  pub alike : (other : FindingRow) → Contains row other ↔ (Contains lines other × (told line ≡ told other))

-- Each line that stands out is in just one row, together with just the lines that are told alike.
abbrev pub AlikeLinesShareARow : Type 0
AlikeLinesShareARow = (lines : List FindingRow) (rows : List (List FindingRow)) → AreSharedRows lines rows → All (IsInOneRow lines rows) lines
