use Rattle.std.proofs.Common.{◌≡◌, ◌≤◌, length, take}
use Rattle.std.specs.List.{filter_map}
use Rattle.desk_tables.specs.CredentialText.{elements, gid_of}
use Rattle.desk_tables.proofs.credential_text.gids_in.Given as goal

-- the numbers of the groups so far, at most as many
abbrev pub invariant-loop-element : goal.invariant-loop-element
invariant-loop-element l = record {
  so_far : l.gids ≡ filter_map (gid_of l.groups) (take (length l.yielded) (elements l.others));
  few : length l.gids ≤ length l.yielded;
}
