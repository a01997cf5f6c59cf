-- The places of the groups so far.
use Rattle.std.proofs.Common.{◌≡◌, map, take}
use Rattle.desk_impact.specs.Places.{place_of}
use Rattle.page_data.specs.Groups.{group_value}
use Rattle.page_places.specs.ListedGroups.{places_in}
use Rattle.page_places.proofs.unlisted_places.places_in.Given as goal

abbrev pub invariant-loop-group : goal.invariant-loop-group
invariant-loop-group l = map place_of l.places.items ≡ places_in (map group_value (take l.group-index l.groups))
