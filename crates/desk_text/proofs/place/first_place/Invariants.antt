-- No physical line so far has the slice.
use Rattle.std.proofs.Common.{◌≡◌, ◌<◌, ℕ, Some}
use Rattle.std.specs.List.{slice_get}
use Rattle.desk_text.specs.Lines.{PhysicalLine}
use Rattle.desk_text.specs.Place.{HasSlice}
use Rattle.desk_text.proofs.place.first_place.Given as goal

abbrev pub invariant-loop-index : goal.invariant-loop-index
invariant-loop-index l = (k : ℕ) (part : PhysicalLine) → k < l.index → slice_get l.line.parts k ≡ Some part → HasSlice part l.start l.end → ⊥
