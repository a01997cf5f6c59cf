-- What a copy keeps of a log that was read twice while it may have been written. (this project's own)
use Rattle.std.specs.Prelude.{◌≡◌, ◌≢◌, ◌<◌, ◌≤◌, ◌==◌, ℕ, List, IsTrue, length, slice_index, take}
use Rattle.std.specs.List.{starts_with}

-- The front of the first reading, as far as the second has the same bytes. The header of the log stood before both readings, in the
-- first of them, and after both.
pub record IsKept (before first second after kept : List ℕ) : Type 0 where
  pub stays : before ≡ after
  pub header : IsTrue (starts_with (λ one other. one == other) kept before)
  pub front : kept ≡ take (length kept) first
  pub within : length kept ≤ length second
  pub same : (k : ℕ) → k < length kept → slice_index first k ≡ slice_index second k
  pub longest : length kept < length first → length kept < length second → slice_index first (length kept) ≢ slice_index second (length kept)
