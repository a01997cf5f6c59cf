-- The lines so far are gathered.
use Rattle.std.proofs.Common.{take}
use Rattle.desk_remarks.specs.PrivateRemarks.{HasOthers}
use Rattle.desk_remarks.proofs.idle_remarks.others_of.Given as goal

abbrev pub invariant-loop-one : goal.invariant-loop-one
invariant-loop-one l = HasOthers (take l.one-index l.wider) l.others
