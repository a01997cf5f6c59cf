-- The pieces of the sections so far.
use Rattle.std.proofs.Common.{◌≡◌, map, take}
use Rattle.std.specs.List.{flat_map}
use Rattle.desk_who.specs.Who.{range_value}
use Rattle.page_data.specs.PrivateGrants.{piece_value, pieces_in}
use Rattle.page_data.proofs.grants.pieces_of.Given as goal

abbrev pub invariant-loop-section : goal.invariant-loop-section
invariant-loop-section l = map piece_value l.pieces.items ≡ flat_map (λ section. pieces_in (map range_value section.ranges)) (take l.section-index l.sections)
