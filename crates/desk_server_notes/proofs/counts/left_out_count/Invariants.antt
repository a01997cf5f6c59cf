-- Those of the file systems so far.
use Rattle.std.proofs.Common.{length, take}
use Rattle.desk_server_notes.specs.CountsNote.{CountsFound}
use Rattle.desk_server_notes.specs.MountFindings.{AreRepeatedAt}
use Rattle.desk_server_notes.proofs.counts.left_out_count.Given as goal

abbrev pub invariant-loop-mount : goal.invariant-loop-mount
invariant-loop-mount l = CountsFound (AreRepeatedAt l.index) (take l.mount-index l.mounts) (length l.all.items)
