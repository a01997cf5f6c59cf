-- What the private contracts of beside cite.
use Rattle.std.specs.Prelude.{ℕ, ◌+◌, ◌≤◌, List, [], ◌∷◌, Option, find}
use Rattle.std.specs.List.{AllByRecursion}
use Rattle.std.specs.Option.{option_map}
use Rattle.desk_who.specs.PrivateStarts.{kept}
use Rattle.desk_who.specs.Runs.{Ascend, Run, holds}

-- the first address of a range, and the one behind it
abbrev pub bounds_of : {A : Type 0} → Run A → List ℕ
bounds_of run = kept (run.first ∷ (run.last + 1) ∷ [])

-- ranges, each of which ends before any later one begins
pub record AreRanges {A : Type 0} (ranges : List (Run A)) : Type 0 where
  pub proper : AllByRecursion (λ range. range.first ≤ range.last) ranges
  pub ascend : Ascend ranges

-- the value of the range that holds an address, if one does
abbrev pub held_value : {A : Type 0} → ℕ → List (Run A) → Option A
held_value address ranges = option_map (λ range. range.value) (find (holds address) ranges)
