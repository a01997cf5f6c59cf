-- The names so far are the same.
use Rattle.std.proofs.Common.{◌≡◌, take}
use Rattle.desk_impact.proofs.same_rows.are_same_names.Given as goal

abbrev pub invariant-loop-place : goal.invariant-loop-place
invariant-loop-place l = take l.place l.names ≡ take l.place l.others
