-- The index has the members of the groups so far.
use Rattle.std.proofs.Common.{take}
use Rattle.desk_tables.specs.PrivateIndex.{HasMembers}
use Rattle.desk_tables.proofs.groups.gids_by_member.Given as goal

abbrev pub invariant-loop-group : goal.invariant-loop-group
invariant-loop-group l = HasMembers (take l.group-index l.rows) l.index
