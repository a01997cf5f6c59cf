-- What is said is that of a policy in force, or nothing.
use Rattle.std.proofs.Common.{Err, subst}
use Rattle.std.proofs.lemmas.Result.{IfOk-weaker}
use Rattle.desk_text.specs.declared.reading.ReadError.{ReadError}
use Rattle.desk_policy.specs.Policy.{Content}
use Rattle.desk_policy.specs.View.{Builds}
use Rattle.desk_policy.specs.declared.site_fault.SiteFault.{SiteFault}
use Rattle.desk_remarks.proofs.Consistency.{in_force, refused}
use Rattle.desk_remarks.proofs.remarks.find_remarks.Goals as goal

pub returns-in-Ok : goal.returns-in-Ok
returns-in-Ok c =
    IfOk-weaker c.remarks_in_force-found.result _ _ (in_force c.args.opinions c.in-Ok.index c.args.policy c.args.warnings.now c.in-Ok.ensures.0 c.in-Ok.ensures.1) c.remarks_in_force-found.ensures

pub returns-in-Err-Fault : goal.returns-in-Err-Fault
returns-in-Err-Fault c =
    refused c.args.opinions c.args.policy c.args.warnings.now c.in-Err-Fault.fault
    (subst (λ (e : ReadError SiteFault). Builds (λ (index : Content). index) c.args.policy (Err e)) c.in-Err-Fault.field-0-is c.in-Err-Fault.ensures) c.new.result c.new.ensures
