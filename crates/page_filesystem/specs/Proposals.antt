-- A proposal that waits. (this project's own)
use Rattle.std.specs.Prelude.{◌≡◌, ℕ, ◌+◌, Bool, false, not, List, [], ◌∷◌, ◌++◌, codes, if◌then◌else◌}
use Rattle.std.specs.Borrow.{Bor}
use Rattle.std.specs.BTreeSet.{BTreeSet, contains}
use Rattle.std.specs.Cmp.Lexicographic.{slice_cmp}
use Rattle.std.specs.List.{list_any}
use Rattle.std.specs.Ordering.{nat_cmp}
use Rattle.std.specs.declared.cmp.Ordering.{Ordering}
use Rattle.std.specs.Str.{bytes_eq}
use Rattle.std.specs.Str.Lines.{lines}
use Rattle.page_html.specs.Blocks.{element_html, tag_html}
use Rattle.page_html.specs.Items.{Code, Digits, Item, Line, Nothing, Number, Own, Strong, Words}
use Rattle.page_html.specs.Tables.{Frame, Name, Plain, marked_row_html, table_start}
use Rattle.page_html.specs.Titles.{Named, Said}
use Rattle.page_html.specs.declared.blocks.Element.TheVariants.{Paragraph}
use Rattle.page_html.specs.declared.blocks.Tag.TheVariants.{ProposalStart, TableEnd}
use Rattle.page_filesystem.specs.Sections.{heading}

-- who proposes a text, as which revision, and what it needs if the file is guarded
abbrev pub approval : Bool → Item (List ℕ)
approval guarded = if guarded then Own (Words (codes ": another of the custodians has to put the same text.")) else Own (Words (codes "."))

abbrev pub proposed_as : List ℕ → ℕ → Bool → List (Item (List ℕ))
proposed_as author revision guarded =
    Code author ∷ Own (Words (codes " proposes this text as revision ")) ∷ Own (Number revision) ∷ Own (Words (codes ". It is not in force"))
    ∷ approval guarded ∷ []

abbrev pub proposal_start : List ℕ → ℕ → Bool → List ℕ
proposal_start author revision guarded =
    tag_html ProposalStart ++ heading (codes "A proposal waits") ++ element_html Paragraph (proposed_as author revision guarded)

-- the table of a proposed text
abbrev pub frame : Frame
frame = record {
  class = codes "text";
  is_titled = false;
  columns = Name (codes "Line") ∷ Plain (codes "In force?") ∷ Plain (codes "Text") ∷ [];
}

-- a line is one of these
abbrev pub is_among : List (List ℕ) → List ℕ → Bool
is_among given line = list_any (bytes_eq line) given

-- the row of a line, which stands out if it is not in force, given which lines are
abbrev pub not_yet : Bool → Item (List ℕ)
not_yet is_in_force = if is_in_force then Own Nothing else Own (Strong (codes "not yet"))

abbrev pub proposed_cells : List (List ℕ) → ℕ → List ℕ → List (List (Item (List ℕ)))
proposed_cells in_force number line = (Own (Digits number) ∷ []) ∷ (not_yet (is_among in_force line) ∷ []) ∷ (Line line ∷ []) ∷ []

abbrev pub proposed_row : List (List ℕ) → ℕ → List ℕ → List ℕ
proposed_row in_force number line = marked_row_html (not (is_among in_force line)) frame (proposed_cells in_force number line)

-- the rows of physical lines, before which there are so many
abbrev pub proposed_rows : List (List ℕ) → ℕ → List (List ℕ) → List ℕ
proposed_rows in_force before [] = []
proposed_rows in_force before (line ∷ others) = proposed_row in_force (before + 1) line ++ proposed_rows in_force (before + 1) others

-- The text that is proposed in the place of the one in force.
abbrev pub proposed_text : List ℕ → List ℕ → List ℕ → List ℕ
proposed_text name in_force text =
    table_start frame (Said (codes "Proposed text of ") ∷ Named name ∷ [])
    ++ proposed_rows (lines in_force) 0 (lines text) ++ tag_html TableEnd

-- the order of lines in a set
abbrev pub order : Bor (List ℕ) → Bor (List ℕ) → Ordering
order line other = slice_cmp nat_cmp line.now other.now

-- a set has just these lines
abbrev pub HasLines : List (List ℕ) → BTreeSet (Bor (List ℕ)) → Type 0
HasLines given known = (line : Bor (List ℕ)) → contains order known line ≡ is_among given line.now
