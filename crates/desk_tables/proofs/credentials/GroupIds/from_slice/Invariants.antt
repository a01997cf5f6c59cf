-- The numbers so far.
use Rattle.std.proofs.Common.{◌≡◌, take}
use Rattle.desk_tables.proofs.credentials.GroupIds.from_slice.Given as goal

abbrev pub invariant-loop-gid : goal.invariant-loop-gid
invariant-loop-gid l = l.items ≡ take l.gid-index l.gids
