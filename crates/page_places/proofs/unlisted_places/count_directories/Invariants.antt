-- The directories so far.
use Rattle.std.proofs.Common.{◌≡◌, map, take}
use Rattle.desk_impact.specs.Places.{place_of}
use Rattle.page_places.specs.ListedGroups.{directories_among}
use Rattle.page_places.proofs.unlisted_places.count_directories.Given as goal

abbrev pub invariant-loop-place : goal.invariant-loop-place
invariant-loop-place l = l.count ≡ directories_among (map place_of (take l.place-index l.places))
