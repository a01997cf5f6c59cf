-- The lines that stand out, in rows of those that are told alike. (this project's own)
use Rattle.std.specs.Prelude.{ℕ, ◌∷◌, ◌++◌, [], Bool, List, map}
use Rattle.std.specs.Str.{bytes_eq}
use Rattle.desk_exports.specs.declared.entry.Clients.{Clients}
use Rattle.desk_exports.specs.declared.entry.Clients.TheVariants.{Hosts, Net, Net6, World}
use Rattle.page_html.specs.Items.{Break, Code, Item, LineLink, Number, Own, Terms, items_html}
use Rattle.page_findings.specs.FindingWords.{finding_items}
use Rattle.page_data.specs.Groups.{AreGrouped}
use Rattle.page_summary.specs.Findings.{RowValue, row_value}
use Rattle.page_summary.specs.declared.findings.FindingRow.{FindingRow}

-- of a line for written names: why it stands out in words, on what terms it grants something, to how many addresses, and the names
abbrev pub told_of_names : RowValue → List (List ℕ) → List (Item (List ℕ))
told_of_names row names =
    finding_items row.told.finding ++ Own Break ∷ Own (Terms row.told.finding.terms) ∷ Own Break ∷ Own (Number row.told.count) ∷ Own Break ∷ map Code names

-- of any other line: its place, which no other line has
abbrev pub place_of : RowValue → List (Item (List ℕ))
place_of row = Own (LineLink row.told.finding.fs row.told.finding.line) ∷ []

abbrev pub told_of : RowValue → Clients → List (Item (List ℕ))
told_of row (Hosts names) = told_of_names row names
told_of row (Net net noted) = place_of row
told_of row (Net6 value) = place_of row
told_of row World = place_of row

-- by this text lines are told apart
abbrev pub told_by : RowValue → List ℕ
told_by row = items_html (told_of row row.told.clients)

abbrev pub told : FindingRow → List ℕ
told row = told_by (row_value row)

-- two lines are told alike
abbrev pub are_told_alike : FindingRow → FindingRow → Bool
are_told_alike row other = bytes_eq (told row) (told other)

-- Lines in rows of those that are told alike: the first of them with all that are told like it are the first row, in their order, and the
-- others make the other rows.
abbrev pub AreSharedRows : List FindingRow → List (List FindingRow) → Type 0
AreSharedRows lines rows = AreGrouped are_told_alike lines rows
