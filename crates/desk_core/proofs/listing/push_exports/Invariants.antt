-- The exports files of the mount points so far are added.
use Rattle.std.proofs.Common.{◌≡◌, ◌++◌, map, take, Bor, List, ℕ}
use Rattle.desk_core.specs.Standing.{standing_in}
use Rattle.desk_core.specs.Listing.{exports_file, file_of}
use Rattle.desk_core.proofs.listing.push_exports.Given as goal

abbrev pub invariant-loop-mount : goal.invariant-loop-mount
invariant-loop-mount l =
    map file_of l.files.items ≡ map file_of l.initial.files.items ++ map (λ (mount : Bor (List ℕ)). exports_file (standing_in l.heads l.proposals) mount.now) (take l.mount-index l.mounts)
