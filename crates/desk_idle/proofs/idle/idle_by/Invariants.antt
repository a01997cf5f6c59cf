-- Those of the lines so far that decide nothing.
use Rattle.std.proofs.Common.{take}
use Rattle.desk_idle.specs.Idle.{AreIdleAmong}
use Rattle.desk_idle.proofs.idle.idle_by.Given as goal

abbrev pub invariant-loop-row : goal.invariant-loop-row
invariant-loop-row l = AreIdleAmong l.index l.fs.0 (take l.row-index l.row-items) l.found.items
