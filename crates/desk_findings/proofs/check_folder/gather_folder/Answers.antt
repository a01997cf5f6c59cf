-- What is found has its slices.
use Rattle.std.proofs.lemmas.Result.{IfOk-weaker}
use Rattle.desk_findings.proofs.FoundSlices.{kept_slices, listed_slices}
use Rattle.desk_findings.proofs.check_folder.gather_folder.Goals as goal

pub returns-in-None-clause-slices : goal.returns-in-None-clause-slices
returns-in-None-clause-slices c = IfOk-weaker c.gather_listed.result _ _ (listed_slices c.args.opinions c.in-Listed.filesystems c.args.whole) c.gather_listed.ensures

pub returns-in-Some-custodians-clause-slices : goal.returns-in-Some-custodians-clause-slices
returns-in-Some-custodians-clause-slices c = IfOk-weaker c.gather_kept.result _ _ (kept_slices c.args.opinions c.in-Some-custodians.custodians c.in-Mounted.filesystems c.args.whole) c.gather_kept.ensures
