-- The first finding has its slice.
use Rattle.desk_findings.specs.Finding.{HasSlice}
use Rattle.desk_check.proofs.ToldFindings.{first}
use Rattle.desk_check.proofs.told_fault.told_first.Goals as goal

pub told_text-requires : goal.told_text-requires
told_text-requires c = rw c.first.ensures.value (first HasSlice c.args.findings.now c.requires)
