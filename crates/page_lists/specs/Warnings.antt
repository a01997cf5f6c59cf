-- What the desk warns of. (this project's own)
use Rattle.std.specs.Prelude.{◌≡◌, ℕ, ◌==◌, List, [], ◌∷◌, ◌++◌, Option, Some, None, codes, length, map, true, if◌then◌else◌}
use Rattle.std.specs.Option.{option_map}
use Rattle.desk_policy.specs.Policy.{Content}
use Rattle.desk_policy.specs.SiteFile.{exports_place}
use Rattle.desk_policy.specs.Warning.{kind_name, kind_sentence}
use Rattle.desk_policy.specs.declared.warning.Warning.{Warning}
use Rattle.desk_policy.specs.declared.warning.WarningKind.{WarningKind}
use Rattle.desk_tables.specs.declared.filesystems.FsId.{FsId}
use Rattle.desk_tables.specs.declared.filesystems.Mount.{Mount}
use Rattle.page_html.specs.Blocks.{element_html, tag_html}
use Rattle.page_html.specs.Items.{Digits, Item, LineLink, Nothing, Words, Own, Code}
use Rattle.page_html.specs.Tables.{Frame, Name, Plain, Told, cells_of, columns_of, rows_html, table_start}
use Rattle.page_html.specs.Titles.{Said}
use Rattle.page_html.specs.declared.blocks.Element.TheVariants.{Paragraph}
use Rattle.page_html.specs.declared.blocks.Tag.TheVariants.{TableEnd}
use Rattle.page_lists.specs.Tables.{long_end, long_start}
use Rattle.page_lists.specs.declared.warnings.WarningRow.{WarningRow}

-- the line, with a link if it is one of a file system
abbrev pub line : Option FsId → ℕ → List (Item (List ℕ))
line None number = Own (Words (codes "line ")) ∷ Own (Digits number) ∷ []
line (Some fs) number = Own (LineLink fs.0 number) ∷ Own Nothing ∷ []

-- the name of a kind, and what `check` says of the word
abbrev pub name : WarningKind → Item (List ℕ)
name kind = Own (Words (kind_name kind))

abbrev pub meaning : WarningKind → Item (List ℕ)
meaning kind = Own (Words (kind_sentence kind))

-- a row of the table by value: a file, and its file system if it is the exports file of one; a line of it, and the word that is odd
pub record RowValue : Type 0 where
  pub file : List ℕ
  pub fs : Option FsId
  pub line : ℕ
  pub word : List ℕ
  pub kind : WarningKind

abbrev pub row_value : WarningRow → RowValue
row_value row = record { file = row.file.now; fs = row.fs; line = row.line; word = row.word.now; kind = row.kind }

-- the table: the file, the line, the word, and what is odd about it
abbrev pub told : List (Told RowValue)
told =
    (Name (codes "File"), (λ row. Code row.file ∷ []))
    ∷ (Plain (codes "Line"), (λ row. line row.fs row.line))
    ∷ (Plain (codes "Word"), (λ row. Code row.word ∷ []))
    ∷ (Plain (codes "Name"), (λ row. name row.kind ∷ []))
    ∷ (Plain (codes "What it means"), (λ row. meaning row.kind ∷ []))
    ∷ []

abbrev pub frame : Frame
frame = record { class = []; is_titled = true; columns = columns_of told }

abbrev pub cells : RowValue → List (List (Item (List ℕ)))
cells row = cells_of told row

-- warnings, folded if there are more than 24
abbrev pub some_warnings : List WarningRow → List ℕ
some_warnings rows =
    long_start 24 (length rows) (codes "warning") (codes "warnings") ++ table_start frame (Said (codes "Warnings about words") ∷ [])
    ++ rows_html frame (map (λ row. cells (row_value row)) rows) ++ tag_html TableEnd ++ long_end 24 (length rows)

-- the warnings, if there are any
abbrev pub warnings : List WarningRow → List ℕ
warnings rows =
    if length rows == 0 then element_html Paragraph (Own (Words (codes "No word has a warning.")) ∷ []) else some_warnings rows

-- the file system whose exports file has this name
abbrev pub filesystem_of : List Mount → List ℕ → Option FsId
filesystem_of table file = option_map (λ place. record { 0 = place }) (exports_place table file)

-- what is told of a warning, where these file systems are listed
abbrev pub row_of : List Mount → Warning → RowValue
row_of table warning = record {
  file = warning.file;
  fs = filesystem_of table warning.file;
  line = warning.line;
  word = warning.word;
  kind = warning.kind;
}

-- These are the rows of the warnings of a policy, in their order.
abbrev pub AreWarningRows : Content → List WarningRow → Type 0
AreWarningRows content rows = map row_value rows ≡ map (row_of content.table) content.warnings

-- The table of these rows stands behind the text before it.
pub record AddsWarnings (content : Content) (old new : List ℕ) : Type 0 where
  pub rows : List WarningRow
  pub are : AreWarningRows content rows
  pub added : new ≡ old ++ warnings rows
