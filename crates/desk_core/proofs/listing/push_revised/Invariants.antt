-- The mount points that the files so far name are added.
use Rattle.std.proofs.Common.{map, take, Bor, List, ℕ}
use Rattle.desk_core.specs.declared.head.Head.{Head}
use Rattle.desk_core.specs.PrivateListing.{NamesMore}
use Rattle.desk_core.proofs.listing.push_revised.Given as goal

abbrev pub invariant-loop-head : goal.invariant-loop-head
invariant-loop-head l =
    NamesMore (map (λ (head : Head). head.file) (take l.head-index l.heads)) (map (λ (mount : Bor (List ℕ)). mount.now) l.initial.mounts.items) (map (λ (mount : Bor (List ℕ)). mount.now) l.mounts.items)
