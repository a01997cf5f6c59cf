-- What the private contracts of shared rows cite.
use Rattle.std.specs.Prelude.{◌≡◌, ℕ, ◌++◌, ◌∷◌, [], Bool, false, List, String, length, nat_lt, slice_index_or, slice_set, if◌then◌else◌}
use Rattle.std.specs.BTreeMap.{BTreeMap, get_by_text}
use Rattle.std.specs.List.{position_from}
use Rattle.std.specs.Str.{bytes_eq}
use Rattle.page_summary.specs.SharedRows.{told}
use Rattle.page_summary.specs.declared.findings.FindingRow.{FindingRow}

-- the first line of a row is told by this text
abbrev pub is_told : List ℕ → List FindingRow → Bool
is_told text [] = false
is_told text (line ∷ lines) = bytes_eq (told line) text

-- the rows, with one more line: in the first row that is told like it, or by itself in a new one
abbrev pub with_line : FindingRow → List (List FindingRow) → List (List FindingRow)
with_line line [] = (line ∷ []) ∷ []
with_line line (row ∷ rows) = if is_told (told line) row then (row ++ line ∷ []) ∷ rows else row ∷ with_line line rows

-- the rows, of which the one at this place, if there is one, has one more line
abbrev pub with_line_at : ℕ → List (List FindingRow) → FindingRow → List (List FindingRow)
with_line_at place rows line = if nat_lt place (length rows) then slice_set rows place (slice_index_or rows place [] ++ line ∷ []) else rows

module _ {Z : Type 0} where
  -- under each text stands the place of the row that is told by it, if there is one
  abbrev pub ArePlaced : BTreeMap (String Z) ℕ → List (List FindingRow) → Type 0
  ArePlaced places rows = (text : List ℕ) → get_by_text places text ≡ position_from (is_told text) 0 rows
