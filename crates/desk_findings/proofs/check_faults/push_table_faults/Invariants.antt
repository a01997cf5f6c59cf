-- The findings so far are those of the faults so far.
use Rattle.std.proofs.Common.{◌≡◌, ◌++◌, map, take}
use Rattle.desk_findings.specs.CheckFaults.{tell_table}
use Rattle.desk_findings.specs.Told.{told}
use Rattle.desk_findings.proofs.check_faults.push_table_faults.Given as goal

abbrev pub invariant-loop-one : goal.invariant-loop-one
invariant-loop-one l = map told l.found ≡ map told l.initial.found ++ map (tell_table l.source) (take l.one-index l.faults)
