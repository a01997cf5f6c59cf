-- What the private contracts of the steps to a policy cite.
use Rattle.std.specs.Prelude.{ℕ, ◌+◌, ◌<◌, nat_lt, List, [], ◌∷◌, ◌++◌, length, slice_index_or, slice_set, if◌then◌else◌}
use Rattle.desk_policy.specs.declared.row.Row.{Row}

-- the lists, of which the one of this file system, if there is one, has one more line
abbrev pub with_row : List (List Row) → ℕ → Row → List (List Row)
with_row lists fs row = if nat_lt fs (length lists) then slice_set lists fs (slice_index_or lists fs [] ++ row ∷ []) else lists

-- of the lines before this place, each has a greater number than the one before it
abbrev pub AscendUpTo : List Row → ℕ → Type 0
AscendUpTo rows place = (k : ℕ) (d : Row) → k + 1 < place → (slice_index_or rows k d).entry.line < (slice_index_or rows (k + 1) d).entry.line
