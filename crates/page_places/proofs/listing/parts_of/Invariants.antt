-- The parts of the groups so far.
use Rattle.std.proofs.Common.{◌≡◌, ◌++◌, All, map}
use Rattle.page_data.specs.Opening.{opening_section}
use Rattle.page_places.specs.Groups.{HasToldSizes}
use Rattle.page_data.specs.Groups.{group_value}
use Rattle.page_places.specs.ListedGroups.{IsPart, part_value}
use Rattle.page_places.proofs.listing.parts_of.Given as goal

abbrev pub invariant-loop-group : goal.invariant-loop-group
invariant-loop-group l = record {
  given : l.yielded ++ l.group-iterator.rest.items ≡ l.fn.groups.items;
  groups : map (λ part. group_value part.group) l.parts.items ≡ map group_value l.yielded;
  parts : All (λ part. IsPart l.drawn (map opening_section l.openings) (part_value part)) l.parts.items;
  sizes : All HasToldSizes l.parts.items;
}
