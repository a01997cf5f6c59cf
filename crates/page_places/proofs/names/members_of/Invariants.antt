-- The places so far are in the group.
use Rattle.std.proofs.Common.{◌≡◌, map, take}
use Rattle.desk_impact.specs.Places.{place_of}
use Rattle.page_places.specs.Names.{members_of, members_value}
use Rattle.page_places.proofs.names.members_of.Given as goal

abbrev pub invariant-loop-section : goal.invariant-loop-section
invariant-loop-section l = members_value l.members ≡ members_of (map (λ section. place_of section.place) (take l.section-index l.sections))
