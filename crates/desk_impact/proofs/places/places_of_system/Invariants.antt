-- Those of the places so far that are in the file system.
use Rattle.std.proofs.Common.{◌≡◌, map, take}
use Rattle.std.specs.Prelude.{filter}
use Rattle.desk_impact.specs.Places.{place_of}
use Rattle.desk_impact.specs.PrivatePlaces.{is_place_in}
use Rattle.desk_impact.proofs.places.places_of_system.Given as goal

abbrev pub invariant-loop-place : goal.invariant-loop-place
invariant-loop-place l = map place_of l.chosen.items ≡ filter (is_place_in l.table l.fs.0) (map place_of (take l.place-index l.places))
