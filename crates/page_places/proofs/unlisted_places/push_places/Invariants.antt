-- The places so far are added.
use Rattle.std.proofs.Common.{◌≡◌, ◌++◌, map, take}
use Rattle.desk_impact.specs.Places.{place_of}
use Rattle.desk_impact.specs.Sections.{section_value}
use Rattle.page_places.specs.ListedGroups.{places_of}
use Rattle.page_places.proofs.unlisted_places.push_places.Given as goal

abbrev pub invariant-loop-section : goal.invariant-loop-section
invariant-loop-section l = map place_of l.places.items ≡ map place_of l.initial.places.items ++ places_of (map section_value (take l.section-index l.sections))
