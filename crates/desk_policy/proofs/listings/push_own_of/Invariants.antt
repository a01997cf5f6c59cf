-- The directories so far that are in the file system are added.
use Rattle.std.proofs.Common.{◌≡◌, ◌++◌, map, take}
use Rattle.desk_policy.specs.PrivateListings.{own_dirs}
use Rattle.desk_policy.proofs.listings.push_own_of.Given as goal

abbrev pub invariant-loop-dir : goal.invariant-loop-dir
invariant-loop-dir l = map (λ dir. dir.now) l.dirs.items ≡ map (λ dir. dir.now) l.initial.dirs.items ++ own_dirs l.filesystems l.fs.0 (take l.dir-index l.dir-items)
