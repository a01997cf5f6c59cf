-- The rows of the lines that stand out. (this project's own)
use Rattle.std.specs.Prelude.{◌≡◌, ◌++◌, ℕ, List, map}
use Rattle.desk_tables.specs.declared.filesystems.Mount.{Mount}
use Rattle.desk_core.specs.declared.head.Head.{Head}
use Rattle.page_findings.specs.Deciding.{DecidedFor}
use Rattle.page_findings.specs.Findings.{AreFindings}
use Rattle.page_findings.specs.Lines.{LineValue}
use Rattle.page_summary.specs.Findings.{RowValue, counted_findings, findings, row_value}
use Rattle.page_summary.specs.declared.findings.FindingRow.{FindingRow}
use Rattle.page_summary.specs.SharedRows.{AreSharedRows}
use Rattle.page_summary.specs.SiteFinding.{SiteFindingValue, findings_among}
use Rattle.page_summary.specs.Files.{line_in, name_of, text_in_force}

-- the row of a line that stands out, given the lines in force of each file system
abbrev pub row_of : List Mount → List (List (List ℕ)) → SiteFindingValue → RowValue
row_of table texts told = record {
  told = told;
  system = name_of table told.finding.fs;
  text = line_in texts told.finding.fs told.finding.line;
}

-- lines that stand out, and the same lines in rows
pub record FindingTable : Type 0 where
  pub lines : List FindingRow
  pub rows : List (List FindingRow)

-- The rows of the lines that stand out: those to be looked at first come first, given which lines decide in place of those that never do,
-- and lines that are told alike share a row.
pub record AreFindingRows (table : List Mount) (heads : List Head) (decided : List (List DecidedFor)) (lines : List LineValue)
    (findings : FindingTable) : Type 0 where
  pub found : List LineValue
  pub are : AreFindings lines found
  pub told : map row_value findings.lines ≡ map (row_of table (map (text_in_force heads) table)) (findings_among decided found)
  pub shared : AreSharedRows findings.lines findings.rows

-- how many there are of each level, and all of them
abbrev pub findings_text : FindingTable → List ℕ
findings_text table = counted_findings table.lines ++ findings table.rows
