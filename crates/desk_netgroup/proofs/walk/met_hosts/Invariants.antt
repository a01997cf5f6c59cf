-- The walk so far.
use Rattle.std.proofs.Common.{◌+◌, length, map}
use Rattle.std.specs.BTreeSet.{contains_text}
use Rattle.desk_netgroup.proofs.WalkOrder.{IsInOrder}
use Rattle.desk_netgroup.proofs.Walking.{HasBegun, IsWalked, weight}
use Rattle.desk_netgroup.proofs.walk.met_hosts.Given as goal

abbrev pub invariant-loop-member : goal.invariant-loop-member
invariant-loop-member l =
    HasBegun l.groups l.name (contains_text l.entered)
    × IsWalked l.groups l.name (contains_text l.entered) (map (λ x. x.now) l.pending.items) (map (λ x. x.now) l.met.items)
    × IsInOrder l.groups l.name (contains_text l.entered) (map (λ x. x.now) l.pending.items) (map (λ x. x.now) l.met.items)

abbrev pub decreases-loop-member : goal.decreases-loop-member
decreases-loop-member l = length (map (λ x. x.now) l.pending.items) + weight (contains_text l.entered) l.groups
