-- The directories so far are added.
use Rattle.std.proofs.Common.{◌≡◌, ◌++◌, map, take}
use Rattle.desk_policy.proofs.listings.push_written.Given as goal

abbrev pub invariant-loop-dir : goal.invariant-loop-dir
invariant-loop-dir l = map (λ dir. dir.now) l.dirs.items ≡ map (λ dir. dir.now) l.initial.dirs.items ++ take l.dir-index l.dir-items
