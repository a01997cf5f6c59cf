-- The text of a file, each line with what it does. (this project's own)
use Rattle.std.specs.Prelude.{ℕ, ◌+◌, ◌==◌, false, List, [], ◌∷◌, ◌++◌, Option, codes, length, nat_le, if◌then◌else◌}
use Rattle.std.specs.Str.Lines.{lines}
use Rattle.page_html.specs.Blocks.{element_html, tag_html}
use Rattle.page_html.specs.Items.{Digits, Item, Line, Own, Plural, Words}
use Rattle.page_html.specs.Tables.{Count, Frame, Name, Plain, Told, cells_of, columns_of, line_row_html, table_start}
use Rattle.page_html.specs.Titles.{Named, Said}
use Rattle.page_html.specs.declared.blocks.Element.TheVariants.{Fold, Paragraph}
use Rattle.page_html.specs.declared.blocks.Tag.TheVariants.{FoldEnd, TableEnd}
use Rattle.page_filesystem.specs.Gutter.{count_item, note_on, said_items, stands_out, told_of}
use Rattle.page_filesystem.specs.declared.gutter.Note.{Note}

-- a physical line by value: its number, the note on it, if there is one, and the text of the line
pub record TextLine : Type 0 where
  pub number : ℕ
  pub note : Option Note
  pub text : List ℕ

-- the table: the number of a line, what it does, to how many addresses, and the line itself
abbrev pub told : List (Told TextLine)
told =
    (Name (codes "Line"), (λ line. Own (Digits line.number) ∷ []))
    ∷ (Plain (codes "It grants"), (λ line. said_items line.note))
    ∷ (Count (codes "to addresses"), (λ line. count_item (told_of line.note) ∷ []))
    ∷ (Plain (codes "Text"), (λ line. Line line.text ∷ []))
    ∷ []

abbrev pub frame : Frame
frame = record { class = codes "text"; is_titled = false; columns = columns_of told }

abbrev pub text_cells : TextLine → List (List (Item (List ℕ)))
text_cells line = cells_of told line

-- the row of a physical line, which links lead to, and which stands out if its note says so
abbrev pub line_row : ℕ → TextLine → List ℕ
line_row fs line = line_row_html fs line.number (stands_out (told_of line.note)) frame (text_cells line)

-- the same, given the notes on a text
abbrev pub text_row : ℕ → List Note → ℕ → List ℕ → List ℕ
text_row fs notes number text = line_row fs (record { number = number; note = note_on notes number; text = text })

-- the rows of physical lines, before which there are so many
abbrev pub text_rows : ℕ → List Note → ℕ → List (List ℕ) → List ℕ
text_rows fs notes before [] = []
text_rows fs notes before (line ∷ others) = text_row fs notes (before + 1) line ++ text_rows fs notes (before + 1) others

-- the table of the lines of a text, which is called by the name of its file system
abbrev pub text_start : List ℕ → List ℕ
text_start name = table_start frame (Said (codes "Text of ") ∷ Named name ∷ Said (codes ", and what each line grants") ∷ [])

abbrev pub lines_table : ℕ → List ℕ → List Note → List ℕ → List ℕ
lines_table fs name notes text = text_start name ++ text_rows fs notes 0 (lines text) ++ tag_html TableEnd

-- the same, or that the text has no line
abbrev pub no_line : List (Item (List ℕ))
no_line = Own (Words (codes "The text is empty: nobody may mount any of its directories.")) ∷ []

abbrev pub text_table : ℕ → List ℕ → List Note → List ℕ → List ℕ
text_table fs name notes text = if length text == 0 then element_html Paragraph no_line else lines_table fs name notes text

-- a text that is folded, by how many lines it has
abbrev pub line_number : ℕ → List (Item (List ℕ))
line_number count = Own (Plural count (codes "line") (codes "lines")) ∷ []

abbrev pub folded_text : ℕ → List ℕ → List Note → List ℕ → List ℕ
folded_text fs name notes text =
    element_html Fold (line_number (length (lines text))) ++ text_table fs name notes text ++ tag_html FoldEnd

-- The text of the file of a file system: one of more than 40 lines is folded.
abbrev pub text_block : ℕ → List ℕ → List Note → List ℕ → List ℕ
text_block fs name notes text =
    if nat_le (length (lines text)) 40 then text_table fs name notes text
    else folded_text fs name notes text
