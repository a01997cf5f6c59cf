-- The texts of the last mount points are put.
use Rattle.std.proofs.Common.{◌≤◌, drop, length, map}
use Rattle.std.specs.String.{string_bytes}
use Rattle.cli_edits.specs.InitCommand.{AreParts}
use Rattle.cli_edits.proofs.init_command.by_mount.Given as goal

abbrev pub invariant-loop-left : goal.invariant-loop-left
invariant-loop-left l = (l.left ≤ length l.mounts) × AreParts (drop l.left l.mounts) (map string_bytes (drop l.left l.parts)) l.exports

abbrev pub decreases-loop-left : goal.decreases-loop-left
decreases-loop-left l = l.left
