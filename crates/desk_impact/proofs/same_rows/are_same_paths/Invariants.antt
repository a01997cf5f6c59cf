-- The paths so far are the same.
use Rattle.std.proofs.Common.{◌≡◌, take}
use Rattle.desk_impact.proofs.same_rows.are_same_paths.Given as goal

abbrev pub invariant-loop-place : goal.invariant-loop-place
invariant-loop-place l = take l.place l.paths ≡ take l.place l.others
