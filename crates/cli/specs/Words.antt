-- The words of the command line. (this project's own)
use Rattle.std.specs.Prelude.{◌≡◌, ◌<◌, ◌≤◌, ℕ, List, [], get_or, length, take, Option, Some, None, Result, Ok, Err}
use Rattle.std.specs.declared.env.FillError.{FillError}
use Rattle.std.specs.declared.env.FillError.TheVariants.{NotPresent, TooLong}

-- the argument at a place was copied whole to the start of a buffer, or there is none, or it is longer than the buffer
abbrev pub GivesArgument : List (List ℕ) → ℕ → Result ℕ FillError → List ℕ → Type 0
GivesArgument all place (Ok n) buf = (place < length all) × (take n buf ≡ get_or all place [])
GivesArgument all place (Err NotPresent) buf = length all ≤ place
GivesArgument all place (Err TooLong) buf = length buf < length (get_or all place [])

-- the argument at a place, if there is one
abbrev pub IsArgument : List (List ℕ) → ℕ → Option (List ℕ) → Type 0
IsArgument all place (Some word) = (place < length all) × (word ≡ get_or all place [])
IsArgument all place None = length all ≤ place
