-- The place is one of those so far.
use Rattle.std.proofs.Common.{◌≡◌, map, take}
use Rattle.desk_impact.specs.Places.{place_of}
use Rattle.desk_impact.specs.Sections.{section_value}
use Rattle.page_places.specs.ListedOpenings.{is_among}
use Rattle.page_places.proofs.listed_openings.is_among.Given as goal

abbrev pub invariant-loop-section : goal.invariant-loop-section
invariant-loop-section l = l.has ≡ is_among (map section_value (take l.section-index l.places)) (place_of l.place)
