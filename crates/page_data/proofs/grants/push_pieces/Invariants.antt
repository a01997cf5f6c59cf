-- The pieces of the ranges so far.
use Rattle.std.proofs.Common.{◌≡◌, ◌++◌, map, take}
use Rattle.std.specs.List.{flat_map}
use Rattle.desk_who.specs.Who.{range_value}
use Rattle.page_data.specs.PrivateGrants.{piece_of, piece_value}
use Rattle.page_data.proofs.grants.push_pieces.Given as goal

abbrev pub invariant-loop-range : goal.invariant-loop-range
invariant-loop-range l = map piece_value l.pieces.items ≡ map piece_value l.fn.pieces.items ++ flat_map (λ range. piece_of (range_value range)) (take l.range-index l.ranges)
