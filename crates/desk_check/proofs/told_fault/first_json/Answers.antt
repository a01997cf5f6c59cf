-- The first finding has its slice.
use Rattle.desk_findings.specs.Finding.{HasSlice}
use Rattle.desk_check.proofs.ToldFindings.{first}
use Rattle.desk_check.proofs.told_fault.first_json.Goals as goal

pub one_json-requires : goal.one_json-requires
one_json-requires c = rw c.first.ensures.value (first HasSlice c.args.findings.now c.requires)
