-- The rows of a table of verdicts. (this project's own)
use Rattle.std.specs.Prelude.{ℕ, ◌+◌, ◌-◌, ◌^◌, false, List, [], ◌∷◌, Result, Ok, Err, codes, map, sum_by}
use Rattle.desk_text.specs.Address.{number_of}
use Rattle.desk_policy.specs.Verdict.{Grant}
use Rattle.desk_policy.specs.declared.verdict.Denial.{Denial}
use Rattle.desk_policy.specs.declared.verdict.Denial.TheVariants.{NoFileSystem, NoLine, NotListed}
use Rattle.desk_who.specs.Runs.{Run}
use Rattle.page_data.specs.Class.{class_of}
use Rattle.page_data.specs.Rows as kept
use Rattle.page_data.specs.declared.class.Class.TheVariants.{Denied}
use Rattle.page_data.specs.declared.rows.TableRow.{TableRow}
use Rattle.page_html.specs.Items.{Item, LineLink, Nothing, Own, PartOf, Ranges, Terms, Words}
use Rattle.page_html.specs.Tables.{Count, Frame, Name, Plain}
use Rattle.page_html.specs.declared.ranges.Span.{Span}
use Rattle.page_html.specs.Ranges.{between}
use Rattle.page_findings.specs.Badges.{badge_item}

-- a verdict, and ranges of addresses that have it
pub record RowValue : Type 0 where
  pub verdict : Result Grant Denial
  pub spans : List Span

-- a range of addresses without its verdict
abbrev pub span_of : Run (Result Grant Denial) → Span
span_of range = between range.first range.last

-- what is told of a row, and a row by value
abbrev pub told_row : kept.RowValue → RowValue
told_row row = record { verdict = row.verdict; spans = map span_of row.ranges }

abbrev pub row_value : TableRow → RowValue
row_value row = told_row (kept.row_value row)

-- how many addresses a range has, and some of them together, of which no two share an address
abbrev pub span_size : Span → ℕ
span_size span = number_of span.last + 1 - number_of span.first

abbrev pub size_of : List Span → ℕ
size_of spans = sum_by span_size spans

-- the table
abbrev pub verdict_frame : Frame
verdict_frame = record {
  class = codes "v";
  is_titled = false;
  columns =
      Name (codes "Verdict") ∷ Plain (codes "Clients") ∷ Count (codes "Addresses") ∷ Plain (codes "By, and on what terms") ∷ [];
}

-- the clients: those whom no line matches are all that no other row tells of
abbrev pub everybody_else : Item (List ℕ)
everybody_else = Own (Words (codes "everybody else"))

abbrev pub denied_clients : List Span → Denial → Item (List ℕ)
denied_clients spans (NotListed fs line) = Own (Ranges spans)
denied_clients spans (NoLine fs) = everybody_else
denied_clients spans NoFileSystem = everybody_else

abbrev pub clients : List Span → Result Grant Denial → Item (List ℕ)
clients spans (Ok grant) = Own (Ranges spans)
clients spans (Err denial) = denied_clients spans denial

-- how many of all addresses
abbrev pub amount : ℕ → Item (List ℕ)
amount count = Own (PartOf count (2 ^ 32))

-- by which line a mount is granted, and on what terms, or why it is denied
abbrev pub no_line : List (Item (List ℕ))
no_line = Own (Words (codes "no line matches them")) ∷ Own Nothing ∷ Own Nothing ∷ []

abbrev pub denied_reason : ℕ → Denial → List (Item (List ℕ))
denied_reason fs (NotListed named line) =
    Own (LineLink fs line) ∷ Own (Words (codes " matches them best, but lists none of these")) ∷ Own Nothing ∷ []
denied_reason fs (NoLine named) = no_line
denied_reason fs NoFileSystem = no_line

abbrev pub reason : ℕ → Result Grant Denial → List (Item (List ℕ))
reason fs (Ok grant) = Own (LineLink fs grant.line) ∷ Own (Words (codes ": ")) ∷ Own (Terms grant.terms) ∷ []
reason fs (Err denial) = denied_reason fs denial

-- the row of a verdict on a file system: its heading is the badge of its class
abbrev pub cells : ℕ → RowValue → List (List (Item (List ℕ)))
cells fs row =
    (badge_item (class_of row.verdict) ∷ []) ∷ (clients row.spans row.verdict ∷ []) ∷ (amount (size_of row.spans) ∷ []) ∷ reason fs row.verdict
    ∷ []

-- the row of all whom no other row tells of
abbrev pub others_cells : ℕ → List (List (Item (List ℕ)))
others_cells count =
    (badge_item Denied ∷ []) ∷ (everybody_else ∷ []) ∷ (amount count ∷ [])
    ∷ (Own (Words (codes "no line matches them, or those that match them best list none of these")) ∷ []) ∷ []
