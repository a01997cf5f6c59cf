-- The rules of the groups so far.
use Rattle.std.proofs.Common.{◌≡◌, take}
use Rattle.std.specs.List.{flat_map}
use Rattle.desk_exports.proofs.rules.rules_of.Given as goal

abbrev pub invariant-loop-group : goal.invariant-loop-group
invariant-loop-group l = l.rules.items ≡ flat_map (λ group. group.rules.now) (take l.group-index l.groups)
