-- What is found has its slices.
use Rattle.std.proofs.lemmas.Result.{IfOk-weaker}
use Rattle.desk_findings.proofs.FoundSlices.{exports_slices, tables_slices}
use Rattle.desk_findings.proofs.check_text.gather.Goals as goal

pub returns-in-Ok-clause-slices : goal.returns-in-Ok-clause-slices
returns-in-Ok-clause-slices c = IfOk-weaker c.gather_exports.result _ _ (exports_slices c.args.opinions c.args.sources c.args.filesystems c.in-Ok.site_tables) c.gather_exports.ensures

pub returns-in-Err-clause-slices : goal.returns-in-Err-clause-slices
returns-in-Err-clause-slices c = IfOk-weaker c.gather_if_fault.result _ _ (tables_slices c.args.sources.tables) c.gather_if_fault.ensures.found
