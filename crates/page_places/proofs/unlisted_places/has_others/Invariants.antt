-- The other directories are among the places so far.
use Rattle.std.proofs.Common.{◌≡◌, map, take}
use Rattle.desk_impact.specs.Places.{place_of}
use Rattle.page_places.specs.ListedGroups.{has_others}
use Rattle.page_places.proofs.unlisted_places.has_others.Given as goal

abbrev pub invariant-loop-place : goal.invariant-loop-place
invariant-loop-place l = l.has ≡ has_others (map place_of (take l.place-index l.places))
