-- One empty list for each file system so far.
use Rattle.std.proofs.Common.{◌≡◌, [], replicate}
use Rattle.desk_policy.proofs.policy.empty_lists.Given as goal

abbrev pub invariant-loop : goal.invariant-loop
invariant-loop g l = l.lists.items ≡ replicate l.counter []
