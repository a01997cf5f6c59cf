-- The lines of the site that stand out. (this project's own)
use Rattle.std.specs.Prelude.{ℕ, ◌==◌, ◌-◌, Bool, List, [], ◌∷◌, ◌++◌, codes, count_by, drop, false, length, map, nat_le, take, true, if◌then◌else◌}
use Rattle.std.specs.List.{flat_map}
use Rattle.page_html.specs.Blocks.{element_html, tag_html}
use Rattle.page_html.specs.Items.{AndMore, Break, Item, Line, LineLink, Link, Number, Own, PartOf, Plural, System, Words}
use Rattle.page_html.specs.Tables.{Column, Count, Frame, Name, Plain, Told, cells_of, columns_of, row_html, table_start}
use Rattle.page_html.specs.Titles.{Said}
use Rattle.page_html.specs.declared.blocks.Element.TheVariants.{Fold, Paragraph}
use Rattle.page_html.specs.declared.blocks.Tag.TheVariants.{FoldEnd, TableEnd}
use Rattle.page_findings.specs.FindingWords.{finding_items}
use Rattle.page_findings.specs.Badges.{level_item}
use Rattle.page_findings.specs.Joining.{joined}
use Rattle.page_data.specs.Reasons.{is_first_level}
use Rattle.page_summary.specs.SiteFinding.{SiteFindingValue, site_finding_value}
use Rattle.page_summary.specs.declared.findings.FindingRow.{FindingRow}

-- a line that stands out, the name of its file system, and the first physical line of its text
pub record RowValue : Type 0 where
  pub told : SiteFindingValue
  pub system : List ℕ
  pub text : List ℕ

abbrev pub row_value : FindingRow → RowValue
row_value row = record { told = site_finding_value row.told; system = row.system.now; text = row.text.now }

-- a line is to be looked at first
abbrev pub is_first : RowValue → Bool
is_first row = is_first_level row.told.finding.level

abbrev pub is_first_row : FindingRow → Bool
is_first_row row = is_first (row_value row)

-- how many lines are to be looked at first, and how many are to be checked; and what is said of the rules by which lines stand out
abbrev pub counts : ℕ → ℕ → List ℕ
counts first others =
    element_html Paragraph
    (Own (Plural first (codes "line") (codes "lines")) ∷ Own (Words (codes " to look at first, ")) ∷ Own (Number others)
    ∷ Own (Words (codes " to check. These are fixed rules over the lines (")) ∷ Own (Link (codes "read") (codes "below"))
    ∷ Own (Words (codes "); what the site intends they do not know.")) ∷ [])

abbrev pub counted_findings : List FindingRow → List ℕ
counted_findings rows = counts (count_by is_first_row rows) (length rows - count_by is_first_row rows)

-- links to the file system of a line, and to the line
abbrev pub place : RowValue → List (Item (List ℕ))
place line = System line.told.finding.fs line.system ∷ Own (Words (codes " ")) ∷ Own (LineLink line.told.finding.fs line.told.finding.line) ∷ []

-- where lines stand: 4 at the most, and how many more there are
abbrev pub some_places : List RowValue → List (Item (List ℕ))
some_places lines = joined place (Own Break) lines

abbrev pub places : List RowValue → List (Item (List ℕ))
places lines = some_places (take 4 lines) ++ Own (AndMore (length (drop 4 lines))) ∷ []

-- how many lines share a row, if more than one does
abbrev pub shared_by : ℕ → List (Item (List ℕ))
shared_by count = Own Break ∷ Own (Number count) ∷ Own (Words (codes " lines for the same names, the first of them:")) ∷ []

abbrev pub shared : ℕ → List (Item (List ℕ))
shared count = if count == 1 then [] else shared_by count

-- why so many lines stand out, and the first of them as written
abbrev pub what : RowValue → ℕ → List (Item (List ℕ))
what first count = finding_items first.told.finding ++ shared count ++ Own Break ∷ Line first.text ∷ []

-- lines that are told alike: the first of them, and all
pub record SharedLines : Type 0 where
  pub first : RowValue
  pub all : List RowValue

-- the table: the level of lines that are told alike, where they stand, why they stand out, and to how many of all addresses each grants
-- something
abbrev pub told : List (Told SharedLines)
told =
    (Name (codes "Level"), (λ row. level_item row.first.told.finding.level ∷ []))
    ∷ (Plain (codes "Where"), (λ row. places row.all))
    ∷ (Plain (codes "What, and the line as written"), (λ row. what row.first (length row.all)))
    ∷ (Count (codes "Addresses"), (λ row. Own (PartOf row.first.told.count 4294967296) ∷ []))
    ∷ []

-- the columns of the table of lines that stand out, and of that of more of them
abbrev pub columns : List Column
columns = columns_of told

abbrev pub findings_frame : Frame
findings_frame = record { class = codes "f"; is_titled = false; columns = columns }

abbrev pub more_frame : Frame
more_frame = record { class = codes "f"; is_titled = true; columns = columns }

-- the row of lines that are told alike
abbrev pub cells : RowValue → List RowValue → List (List (Item (List ℕ)))
cells first all = cells_of told (record { first = first; all = all })

abbrev pub lines_html : Frame → List FindingRow → List ℕ
lines_html frame [] = []
lines_html frame (first ∷ others) = row_html frame (cells (row_value first) (map row_value (first ∷ others)))

-- a table of such rows
abbrev pub table : Frame → List ℕ → List (List FindingRow) → List ℕ
table frame title rows = table_start frame (Said title ∷ []) ++ flat_map (lines_html frame) rows ++ tag_html TableEnd

-- rows in the open, and rows that are folded
abbrev pub open_rows : List (List FindingRow) → List ℕ
open_rows rows = table findings_frame (codes "Lines that stand out") rows

abbrev pub fold_start : ℕ → List ℕ
fold_start count = element_html Fold (Own (Plural count (codes "more row") (codes "more rows")) ∷ [])

abbrev pub folded_rows : List (List FindingRow) → List ℕ
folded_rows rows = fold_start (length rows) ++ table more_frame (codes "More lines that stand out") rows ++ tag_html FoldEnd

-- the first 24 in the open, and all others folded
abbrev pub open_and_folded : List (List FindingRow) → List ℕ
open_and_folded rows = if nat_le (length rows) 24 then open_rows rows else open_rows (take 24 rows) ++ folded_rows (drop 24 rows)

-- the lines that stand out, if there are any
abbrev pub no_finding : List ℕ
no_finding = element_html Paragraph (Own (Words (codes "No line stands out by the rules of this report.")) ∷ [])

abbrev pub findings : List (List FindingRow) → List ℕ
findings rows = if length rows == 0 then no_finding else open_and_folded rows
