-- The directories of the lines so far that are in the file system are added.
use Rattle.std.proofs.Common.{◌≡◌, ◌++◌, map, take}
use Rattle.desk_policy.specs.Listings.{written}
use Rattle.desk_policy.specs.PrivateListings.{own_dirs}
use Rattle.desk_policy.proofs.listings.push_own.Given as goal

abbrev pub invariant-loop-row : goal.invariant-loop-row
invariant-loop-row l = map (λ dir. dir.now) l.dirs.items ≡ map (λ dir. dir.now) l.initial.dirs.items ++ own_dirs l.filesystems l.fs.0 (written (take l.row-index l.rows))
