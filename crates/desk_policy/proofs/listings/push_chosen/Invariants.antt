-- The directories of the lines so far are added.
use Rattle.std.proofs.Common.{◌≡◌, ◌++◌, map, take}
use Rattle.desk_policy.specs.Listings.{written}
use Rattle.desk_policy.proofs.listings.push_chosen.Given as goal

abbrev pub invariant-loop-row : goal.invariant-loop-row
invariant-loop-row l = map (λ dir. dir.now) l.dirs.items ≡ map (λ dir. dir.now) l.initial.dirs.items ++ written (map (λ row. row.now) (take l.row-index l.chosen))
