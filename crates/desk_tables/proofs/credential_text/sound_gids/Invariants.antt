use Rattle.std.proofs.Common.{◌≡◌, ◌≤◌, Some, length, map, take}
use Rattle.desk_tables.specs.CredentialText.{elements}
use Rattle.desk_tables.specs.PrivateCredentialText.{sound_gid}
use Rattle.desk_tables.proofs.credential_text.sound_gids.Given as goal

-- the numbers of the groups so far
abbrev pub invariant-loop-element : goal.invariant-loop-element
invariant-loop-element l = record {
  so_far : map (sound_gid l.groups) (take (length l.yielded) (elements l.others)) ≡ map Some l.gids;
  few : length l.gids ≤ 16;
}
