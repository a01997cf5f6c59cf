-- The lines so far write this directory alone.
use Rattle.std.proofs.Common.{take}
use Rattle.std.specs.List.{All}
use Rattle.desk_server.specs.PrivateWiderGrants.{ListsOnly}
use Rattle.desk_server.proofs.same_listing.all_list_only.Given as goal

abbrev pub invariant-loop-row : goal.invariant-loop-row
invariant-loop-row l = All (ListsOnly l.dir) (take l.row-index l.rows)
