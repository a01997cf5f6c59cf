-- The members so far are pending, the last of them first.
use Rattle.std.proofs.Common.{◌≡◌, ◌++◌, map}
use Rattle.desk_netgroup.proofs.walk.push_reversed.Given as goal

abbrev pub invariant-loop-member : goal.invariant-loop-member
invariant-loop-member l = map (λ x. x.now) l.pending.items ≡ map (λ x. x.now) l.initial.pending.items ++ map (λ x. x.now) l.yielded
