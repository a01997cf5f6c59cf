-- The table of the lines that stand out is made of blocks.
use Rattle.std.proofs.Common.{ℕ, ◌-◌, ◌==◌, List, [], ◌∷◌, codes, drop, length, map, refl, take}
use Rattle.std.specs.Prelude.{count_by, nat_le}
use Rattle.page_html.specs.Items.{Link, Number, Own, Plural, Words}
use Rattle.page_html.specs.Tables.{Frame}
use Rattle.page_html.specs.Titles.{Said}
use Rattle.page_html.specs.declared.blocks.Element.TheVariants.{Fold, Paragraph}
use Rattle.page_html.specs.declared.blocks.Tag.TheVariants.{FoldEnd, TableEnd}
use Rattle.page_summary.specs.FindingRows.{FindingTable, findings_text}
use Rattle.page_summary.specs.Findings.{cells, counts, findings_frame, fold_start, folded_rows, is_first_row, lines_html, more_frame, no_finding, open_and_folded, open_rows, row_value, table}
use Rattle.page_summary.specs.declared.findings.FindingRow.{FindingRow}
use Rattle.page_site.specs.MadeOfBlocks.{IsMadeOfBlocks}
use Rattle.page_site.proofs.Made.{append_made, each_made, element_made, if_made, nothing_made, row_made, start_made, tag_made}
use Rattle.page_summary.proofs.Plain.{finding_cells_plain}

counts_made : (first others : ℕ) → IsMadeOfBlocks (counts first others)
counts_made first others =
    element_made Paragraph
    (Own (Plural first (codes "line") (codes "lines")) ∷ Own (Words (codes " to look at first, ")) ∷ Own (Number others)
    ∷ Own (Words (codes " to check. These are fixed rules over the lines (")) ∷ Own (Link (codes "read") (codes "below"))
    ∷ Own (Words (codes "); what the site intends they do not know.")) ∷ []) (record { are = refl })

-- ---- the table
lines_made : (frame : Frame) (lines : List FindingRow) → IsMadeOfBlocks (lines_html frame lines)
lines_made frame [] = nothing_made
lines_made frame (first ∷ others) = row_made frame (cells (row_value first) (map row_value (first ∷ others))) (finding_cells_plain (row_value first) (map row_value (first ∷ others)))

finding_table_made : (frame : Frame) (title : List ℕ) (rows : List (List FindingRow)) → IsMadeOfBlocks (table frame title rows)
finding_table_made frame title rows =
    append_made (append_made (start_made frame (Said title ∷ [])) (each_made (lines_html frame) (lines_made frame) rows)) (tag_made TableEnd)

open_made : (rows : List (List FindingRow)) → IsMadeOfBlocks (open_rows rows)
open_made rows = finding_table_made findings_frame (codes "Lines that stand out") rows

fold_start_made : (count : ℕ) → IsMadeOfBlocks (fold_start count)
fold_start_made count = element_made Fold (Own (Plural count (codes "more row") (codes "more rows")) ∷ []) (record { are = refl })

folded_made : (rows : List (List FindingRow)) → IsMadeOfBlocks (folded_rows rows)
folded_made rows =
    append_made (append_made (fold_start_made (length rows)) (finding_table_made more_frame (codes "More lines that stand out") rows)) (tag_made FoldEnd)

open_and_folded_made : (rows : List (List FindingRow)) → IsMadeOfBlocks (open_and_folded rows)
open_and_folded_made rows = if_made (nat_le (length rows) 24) (open_made rows) (append_made (open_made (take 24 rows)) (folded_made (drop 24 rows)))

no_finding_made : IsMadeOfBlocks no_finding
no_finding_made = element_made Paragraph (Own (Words (codes "No line stands out by the rules of this report.")) ∷ []) (record { are = refl })

pub findings_made : (findings : FindingTable) → IsMadeOfBlocks (findings_text findings)
findings_made findings =
    append_made (counts_made (count_by is_first_row findings.lines) (length findings.lines - count_by is_first_row findings.lines))
    (if_made (length findings.rows == 0) no_finding_made (open_and_folded_made findings.rows))
