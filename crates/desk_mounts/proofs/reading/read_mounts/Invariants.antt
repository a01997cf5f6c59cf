-- The lines so far are good, and what was found is what they list.
use Rattle.std.proofs.Common.{take}
use Rattle.desk_mounts.proofs.Lines.{AreRead}
use Rattle.desk_mounts.proofs.reading.read_mounts.Given as goal

abbrev pub invariant-loop-line : goal.invariant-loop-line
invariant-loop-line l = AreRead (take l.line-index l.line-items) l.found.items
