-- The file systems so far.
use Rattle.std.proofs.Common.{string_bytes, take}
use Rattle.desk_server_prints.specs.PrivateLeftOut.{AddsNote}
use Rattle.desk_server_prints.proofs.left_out_lines.push_files.Given as goal

abbrev pub invariant-loop-mount : goal.invariant-loop-mount
invariant-loop-mount l = AddsNote l.index (take l.mount-index l.mounts) (string_bytes l.initial.note) (string_bytes l.note)
