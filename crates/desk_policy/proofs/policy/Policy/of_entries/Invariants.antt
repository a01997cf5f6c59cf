-- The lines of the entries so far, each in the list of its file system.
use Rattle.std.proofs.Common.{◌≡◌, ◌++◌, length, map}
use Rattle.std.specs.List.{range_with_len}
use Rattle.desk_policy.specs.Policy.{rows_placed}
use Rattle.desk_policy.specs.PrivateKnownNames.{AreKnown}
use Rattle.desk_policy.proofs.policy.Policy.of_entries.Given as goal

abbrev pub invariant-loop-fs : goal.invariant-loop-fs
invariant-loop-fs l = record {
  entries : l.yielded ++ l.fs-iterator.rest.items ≡ l.fn.entries;
  lists : l.rows.items ≡ map (rows_placed l.netgroups l.hosts l.yielded) (range_with_len 0 (length l.fn.filesystems));
  known : AreKnown l.netgroups l.hosts l.known;
}
