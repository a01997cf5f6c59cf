-- The lines were looked at that are selected at the addresses so far.
use Rattle.std.proofs.Common.{take}
use Rattle.desk_policy.specs.Policy.{rows_of}
use Rattle.desk_idle.specs.PrivateMarks.{HaveLooked}
use Rattle.desk_idle.specs.Selections.{addresses_of}
use Rattle.desk_idle.proofs.marks.marks_of.Given as goal

abbrev pub invariant-loop-selection : goal.invariant-loop-selection
invariant-loop-selection l = HaveLooked (rows_of l.index l.fs.0) (take l.selection-index (addresses_of l.selections)) l.marks l.lists
