-- What the private contracts of grants cite.
use Rattle.std.specs.Prelude.{ℕ, ◌-◌, ◌≤◌, ◌^◌, ◌==◌, ◌&&◌, Bool, List, [], ◌∷◌, Result, Ok, Err, filter, map, nat_le}
use Rattle.std.specs.List.{AllPairs, flat_map, list_any}
use Rattle.desk_text.specs.Address.{number_of}
use Rattle.desk_policy.specs.Verdict.{Grant}
use Rattle.desk_policy.specs.declared.verdict.Denial.{Denial}
use Rattle.desk_policy.specs.declared.row.Row.{Row}
use Rattle.desk_who.specs.Runs.{Run}
use Rattle.desk_impact.specs.Sections.{PlaceBreaches}
use Rattle.page_data.specs.Counts.{count_within}
use Rattle.page_data.specs.declared.grants.LineGrants.{LineGrants}
use Rattle.page_data.specs.declared.grants.Piece.{Piece}

-- a range of addresses to which a line grants a directory
pub record PieceValue : Type 0 where
  pub line : ℕ
  pub first : ℕ
  pub last : ℕ

abbrev pub piece_value : Piece → PieceValue
piece_value piece = record { line = piece.line; first = number_of piece.first; last = number_of piece.last }

-- that of a range with a verdict that grants
abbrev pub piece_by : ℕ → ℕ → Result Grant Denial → List PieceValue
piece_by first last (Ok grant) = record { line = grant.line; first = first; last = last } ∷ []
piece_by first last (Err denial) = []

abbrev pub piece_of : Run (Result Grant Denial) → List PieceValue
piece_of range = piece_by range.first range.last range.value

-- those of ranges, and of places
abbrev pub pieces_in : List (Run (Result Grant Denial)) → List PieceValue
pieces_in ranges = flat_map piece_of ranges

abbrev pub pieces_of : List PlaceBreaches → List PieceValue
pieces_of sections = flat_map (λ section. pieces_in section.ranges) sections

-- a piece has an address
abbrev pub has : ℕ → PieceValue → Bool
has address piece = nat_le piece.first address && nat_le address piece.last

-- a line with a number of addresses
pub record LineCount : Type 0 where
  pub line : ℕ
  pub count : ℕ

abbrev pub line_count : LineGrants → LineCount
line_count one = record { line = one.line; count = one.count }

-- how many addresses pieces have together
abbrev pub covered : List PieceValue → ℕ
covered pieces = count_within (λ address. list_any (has address) pieces) 0 (2 ^ 32 - 1)

abbrev pub is_of_line : ℕ → PieceValue → Bool
is_of_line line piece = piece.line == line

-- pieces ascend by their lines
abbrev pub AreByLine : List PieceValue → Type 0
AreByLine pieces = AllPairs (λ piece later. piece.line ≤ later.line) pieces

-- pieces ascend by their first addresses
abbrev pub Ascend : List PieceValue → Type 0
Ascend pieces = AllPairs (λ piece later. piece.first ≤ later.first) pieces

-- for each of these lines, how many addresses the pieces of that line have together
abbrev pub counts_of : List Row → List PieceValue → List LineCount
counts_of rows pieces = map (λ row. record { line = row.entry.line; count = covered (filter (is_of_line row.entry.line) pieces) }) rows
