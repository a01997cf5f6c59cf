-- The lines so far are gathered.
use Rattle.std.proofs.Common.{take}
use Rattle.desk_remarks.specs.PrivateUnwarnedLines.{HasLines}
use Rattle.desk_remarks.proofs.unwarned_lines.warned_lines.Given as goal

abbrev pub invariant-loop-warning : goal.invariant-loop-warning
invariant-loop-warning l = HasLines (take l.warning-index l.warnings) l.lines
