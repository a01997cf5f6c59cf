-- What is found has its slices.
use Rattle.std.proofs.lemmas.Result.{IfOk-weaker}
use Rattle.desk_findings.proofs.FoundSlices.{heads_slices, with_custodians_slices}
use Rattle.desk_findings.proofs.check_site.gather_site.Goals as goal

pub returns-in-Ok-clause-slices : goal.returns-in-Ok-clause-slices
returns-in-Ok-clause-slices c = IfOk-weaker c.gather_with_custodians.result _ _ (with_custodians_slices c.args.opinions c.args.sources c.in-Ok.custodians) c.gather_with_custodians.ensures

pub returns-in-Err-Fault-clause-slices : goal.returns-in-Err-Fault-clause-slices
returns-in-Err-Fault-clause-slices c = IfOk-weaker c.gather_heads.result _ _ (heads_slices c.args.sources) c.gather_heads.ensures
