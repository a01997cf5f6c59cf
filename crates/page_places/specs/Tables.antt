-- The table of who may mount some directories. (this project's own)
use Rattle.std.specs.Prelude.{ℕ, ◌+◌, ◌==◌, ◌≤◌, ◌^◌, All, IfSome, List, [], ◌∷◌, ◌++◌, Option, Some, None, Result, Ok, Err, codes, length, map, nat_le, sum_by, if◌then◌else◌}
use Rattle.desk_policy.specs.Verdict.{Grant}
use Rattle.desk_policy.specs.declared.verdict.Denial.{Denial}
use Rattle.page_data.specs.declared.tables.Table.{Table}
use Rattle.page_html.specs.Blocks.{element_html, tag_html}
use Rattle.page_html.specs.Items.{Item, Own, Plural, Words}
use Rattle.page_html.specs.Tables.{row_html, rows_html, table_start}
use Rattle.page_html.specs.declared.blocks.Element.TheVariants.{Fold}
use Rattle.page_html.specs.declared.blocks.Tag.TheVariants.{FoldEnd, TableEnd}
use Rattle.page_places.specs.Names.{MembersValue, caption}
use Rattle.page_places.specs.Rows.{RowValue, cells, others_cells, row_value, size_of, verdict_frame}

-- the rows of a table, and how many addresses are denied without a row of their own, if some are
pub record TableValue : Type 0 where
  pub rows : List RowValue
  pub others : Option ℕ

-- how many addresses everybody else has, if verdicts that deny are joined
abbrev pub others_of : Table → Option ℕ
others_of table = if table.denials == 0 then None else Some table.others

-- a table by what is told of it
abbrev pub told_value : Table → TableValue
told_value table = record { rows = map row_value table.rows; others = others_of table }

-- no row has more addresses than there are
abbrev pub HasSize : RowValue → Type 0
HasSize row = size_of row.spans ≤ 2 ^ 32

pub record HasSizes (told : TableValue) : Type 0 where
  pub rows : All HasSize told.rows
  pub others : IfSome told.others (λ count. count ≤ 2 ^ 32)

-- how many rows a table has
abbrev pub row_count_with : ℕ → Option ℕ → ℕ
row_count_with rows None = rows
row_count_with rows (Some count) = rows + 1

abbrev pub row_count : TableValue → ℕ
row_count told = row_count_with (length told.rows) told.others

-- how many of the rows are those of lines that grant
abbrev pub grants_one : Result Grant Denial → ℕ
grants_one (Ok grant) = 1
grants_one (Err denial) = 0

abbrev pub granting : List RowValue → ℕ
granting rows = sum_by (λ row. grants_one row.verdict) rows

-- the row of everybody else, if it is told
abbrev pub others_text : Option ℕ → List ℕ
others_text None = []
others_text (Some count) = row_html verdict_frame (others_cells count)

-- a row for each verdict, and that of everybody else
abbrev pub table : ℕ → MembersValue → TableValue → List ℕ
table fs members told =
    table_start verdict_frame (caption members) ++ rows_html verdict_frame (map (cells fs) told.rows) ++ others_text told.others ++ tag_html TableEnd

-- a table that is folded
abbrev pub table_summary : ℕ → List (Item (List ℕ))
table_summary count = Own (Plural count (codes "line") (codes "lines")) ∷ Own (Words (codes " that grant it")) ∷ []

abbrev pub folded_table : ℕ → MembersValue → TableValue → List ℕ
folded_table fs members told = element_html Fold (table_summary (granting told.rows)) ++ table fs members told ++ tag_html FoldEnd

-- The table of who may mount directories of a file system: one of more than 24 rows is folded.
abbrev pub table_block : ℕ → MembersValue → TableValue → List ℕ
table_block fs members told =
    if nat_le (row_count told) 24 then table fs members told else folded_table fs members told
