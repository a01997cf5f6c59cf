-- The security flavours of the lines that grant something. (this project's own)
use Rattle.std.specs.Prelude.{ℕ, List, [], ◌∷◌, ◌++◌, codes, map, true}
use Rattle.page_html.specs.Blocks.{tag_html}
use Rattle.page_html.specs.Items.{FlavourNames, Flavours, Item, Number, Own}
use Rattle.page_html.specs.Tables.{Count, Frame, Name, Plain, Told, cells_of, columns_of, rows_html, table_start}
use Rattle.page_html.specs.Titles.{Said}
use Rattle.page_html.specs.declared.blocks.Tag.TheVariants.{TableEnd}
use Rattle.page_lists.specs.Mentions.{some_of}
use Rattle.page_summary.specs.FlavoursRows.{FlavoursValue, row_value}
use Rattle.page_summary.specs.declared.flavours.FlavoursRow.{FlavoursRow}

-- the table: flavours, as lines write them and in words, how many lines have them, how many of these are not read-only, and on which file
-- systems: 12 at the most, and how many more
abbrev pub told : List (Told FlavoursValue)
told =
    (Name (codes "Flavours"), (λ row. Own (FlavourNames row.flavours) ∷ []))
    ∷ (Plain (codes "In words"), (λ row. Own (Flavours row.flavours) ∷ []))
    ∷ (Count (codes "Lines"), (λ row. Own (Number row.lines) ∷ []))
    ∷ (Count (codes "without -ro"), (λ row. Own (Number row.writable) ∷ []))
    ∷ (Plain (codes "File systems"), (λ row. some_of 12 row.systems))
    ∷ []

abbrev pub flavours_frame : Frame
flavours_frame = record { class = codes "a"; is_titled = true; columns = columns_of told }

abbrev pub cells : FlavoursValue → List (List (Item (List ℕ)))
cells row = cells_of told row

abbrev pub row_cells : FlavoursRow → List (List (Item (List ℕ)))
row_cells row = cells (row_value row)

abbrev pub flavours_table : List FlavoursRow → List ℕ
flavours_table rows =
    table_start flavours_frame (Said (codes "Security flavours of the lines that grant") ∷ []) ++ rows_html flavours_frame (map row_cells rows)
    ++ tag_html TableEnd
