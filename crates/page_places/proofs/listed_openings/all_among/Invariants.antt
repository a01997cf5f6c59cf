-- What the server grants at those so far.
use Rattle.std.proofs.Common.{◌≡◌, map, take}
use Rattle.std.specs.List.{flat_map}
use Rattle.desk_impact.specs.Sections.{section_value}
use Rattle.page_data.specs.Opening.{opening_section}
use Rattle.page_places.specs.Openings.{opening_value}
use Rattle.page_places.specs.ListedOpenings.{opened_if}
use Rattle.page_places.proofs.listed_openings.all_among.Given as goal

abbrev pub invariant-loop-section : goal.invariant-loop-section
invariant-loop-section l = map opening_value l.all.items ≡ flat_map (λ section. opened_if (map section_value l.places) (opening_section section)) (take l.section-index l.openings)
