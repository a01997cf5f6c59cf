-- the gids so far
use Rattle.std.proofs.Common.{◌≡◌, ◌≤◌, ◌∷◌, length, take}
use Rattle.desk_tables.specs.Groups.{distinct}
use Rattle.desk_tables.proofs.groups.Groups.gids_of.Given as goal

abbrev pub invariant-loop-gid : goal.invariant-loop-gid
invariant-loop-gid l = record {
  so_far : l.gids ≡ distinct (l.user.gid ∷ take l.gid-index l.gid-items);
  few : length l.gids ≤ 16;
}
