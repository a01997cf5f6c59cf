-- The paths so far, in order, without duplicates.
use Rattle.std.proofs.Common.{map, take}
use Rattle.desk_policy.specs.PrivateListings.{IsOrderOf}
use Rattle.desk_policy.proofs.listings.in_order.Given as goal

abbrev pub invariant-loop-path : goal.invariant-loop-path
invariant-loop-path l = IsOrderOf (map (λ path. path.now) (take l.path-index l.path-items)) l.ordered.items
