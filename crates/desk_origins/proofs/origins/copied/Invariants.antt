-- Those so far are copied.
use Rattle.std.proofs.Common.{◌≡◌, take}
use Rattle.desk_origins.proofs.origins.copied.Given as goal

abbrev pub invariant-loop-origin : goal.invariant-loop-origin
invariant-loop-origin l = l.copies ≡ take l.origin-index l.origins
