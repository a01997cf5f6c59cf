-- The counts of the lines so far.
use Rattle.std.proofs.Common.{◌≡◌, map, take}
use Rattle.page_data.specs.PrivateGrants.{counts_of, line_count, piece_value}
use Rattle.page_data.proofs.grants.grants_of.Given as goal

abbrev pub invariant-loop-row : goal.invariant-loop-row
invariant-loop-row l = map line_count l.found.items ≡ counts_of (take l.row-index l.rows) (map piece_value l.pieces.items)
