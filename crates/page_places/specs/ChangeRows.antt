-- What a proposal would change, and for whom. (this project's own)
use Rattle.std.specs.Prelude.{ℕ, ◌==◌, true, List, [], ◌∷◌, ◌++◌, Result, Ok, Err, codes, length, map, nat_le, if◌then◌else◌}
use Rattle.desk_policy.specs.Verdict.{Grant}
use Rattle.desk_policy.specs.declared.verdict.Denial.{Denial}
use Rattle.desk_who.specs.Runs.{Run}
use Rattle.desk_impact.specs.Impact.{TwoVerdicts}
use Rattle.page_data.specs.Class.{class_of}
use Rattle.page_html.specs.Blocks.{element_html, tag_html}
use Rattle.page_html.specs.Items.{Digits, Item, Nothing, Number, Own, Plural, Range, Terms, Words}
use Rattle.page_html.specs.Tables.{Count, Frame, Name, Plain, rows_html, table_start}
use Rattle.page_html.specs.Titles.{Said}
use Rattle.page_html.specs.declared.blocks.Element.TheVariants.{Fold, Paragraph}
use Rattle.page_html.specs.declared.blocks.Tag.TheVariants.{FoldEnd, TableEnd}
use Rattle.page_html.specs.declared.ranges.Span.{Span}
use Rattle.page_html.specs.Ranges.{between}
use Rattle.page_findings.specs.Badges.{badge_item}
use Rattle.page_places.specs.Changes.{PlaceChange, row_value}
use Rattle.page_places.specs.Names.{place_item}
use Rattle.page_places.specs.Rows.{span_size}
use Rattle.page_places.specs.declared.change_rows.ChangeRow.{ChangeRow}

-- the table
abbrev pub change_frame : Frame
change_frame = record {
  class = codes "i";
  is_titled = true;
  columns =
      Name (codes "Directory") ∷ Plain (codes "Clients") ∷ Count (codes "Addresses") ∷ Plain (codes "Now") ∷ Plain (codes "Then") ∷ [];
}

-- by which line a mount is granted, and on what terms; a line of the proposed text has no link
abbrev pub words_behind : Result Grant Denial → List (Item (List ℕ))
words_behind (Ok grant) =
    Own (Words (codes " line ")) ∷ Own (Digits grant.line) ∷ Own (Words (codes ": ")) ∷ Own (Terms grant.terms) ∷ []
words_behind (Err denial) = Own Nothing ∷ Own Nothing ∷ Own Nothing ∷ Own Nothing ∷ []

abbrev pub verdict_items : Result Grant Denial → List (Item (List ℕ))
verdict_items verdict = badge_item (class_of verdict) ∷ words_behind verdict

-- where something changes, for which addresses, how many they are, and what their verdict is now and then
abbrev pub span_of : Run TwoVerdicts → Span
span_of change = between change.first change.last

abbrev pub cells : PlaceChange → List (List (Item (List ℕ)))
cells one =
    (place_item one.place ∷ []) ∷ (Own (Range (span_of one.change)) ∷ []) ∷ (Own (Number (span_size (span_of one.change))) ∷ [])
    ∷ verdict_items one.change.value.before ∷ verdict_items one.change.value.after ∷ []

abbrev pub change_cells : ChangeRow → List (List (Item (List ℕ)))
change_cells row = cells (row_value row)

abbrev pub change_table : List ChangeRow → List ℕ
change_table rows =
    table_start change_frame (Said (codes "What it would change") ∷ []) ++ rows_html change_frame (map change_cells rows) ++ tag_html TableEnd

-- the changes that matter: more than 24 are folded
abbrev pub changes_folded : List ChangeRow → List ℕ
changes_folded rows =
    element_html Fold (Own (Plural (length rows) (codes "change") (codes "changes")) ∷ []) ++ change_table rows ++ tag_html FoldEnd

abbrev pub some_changes : List ChangeRow → List ℕ
some_changes rows = if nat_le (length rows) 24 then change_table rows else changes_folded rows

abbrev pub no_change : List ℕ
no_change = element_html Paragraph (Own (Words (codes "It would change nothing for any client.")) ∷ [])

abbrev pub mattering : List ChangeRow → List ℕ
mattering rows = if length rows == 0 then no_change else some_changes rows

-- those of lines or reasons alone
abbrev pub silent_items : ℕ → List (Item (List ℕ))
silent_items count = Own (Plural count (codes "change") (codes "changes")) ∷ Own (Words (codes " of lines or reasons alone: the same clients may mount the same on the same terms, and only the line that grants it, or the reason of a denial, is another.")) ∷ []

abbrev pub silent_words : ℕ → List ℕ
silent_words count = if count == 0 then [] else element_html Paragraph (silent_items count)

-- What a proposal would change.
abbrev pub changes_block : List ChangeRow → ℕ → List ℕ
changes_block rows silent = mattering rows ++ silent_words silent
