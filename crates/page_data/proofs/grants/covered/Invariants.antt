-- What is known of the pieces so far.
use Rattle.std.proofs.Common.{map, take}
use Rattle.page_data.specs.PrivateGrants.{piece_value}
use Rattle.page_data.proofs.Covered.{Swept}
use Rattle.page_data.proofs.grants.covered.Given as goal

abbrev pub invariant-loop-piece : goal.invariant-loop-piece
invariant-loop-piece l = Swept (map piece_value (take l.piece-index l.pieces)) l.count l.behind
