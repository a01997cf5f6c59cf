use Rattle.std.proofs.Common.{IfOk, map, subst}
use Rattle.std.proofs.lemmas.Result.{IfOk-weaker}
use Rattle.desk_impact.specs.Places.{ArePlaces, place_of}
use Rattle.desk_impact.specs.PrivateReport.{IsReportOf}
use Rattle.desk_impact.specs.Report.{IsReport}
use Rattle.desk_impact.proofs.Reporting.{reported_whole}
use Rattle.desk_impact.proofs.report.impact_report.Goals as goal

pub returns : goal.returns
returns g c =
    let old = g.V.PolicyView.in_force c.args.before.now in
    let new = g.V.PolicyView.in_force c.args.after.now in
    let own = map place_of c.in_ok-places.places.items in
    let are : ArePlaces old new own =
    subst (λ content. ArePlaces old content own) c.policy-2.ensures (subst (λ content. ArePlaces content c.policy-2.result.now own) c.policy.ensures c.in_ok-places.ensures) in
    IfOk-weaker c.report_of.result (λ report. IsReportOf old new own c.args.all report) (λ report. IsReport old new c.args.all report)
    (λ report is. reported_whole old new c.args.all own report are is)
    (subst (λ items. IfOk c.report_of.result (λ report. IsReportOf old new (map place_of items) c.args.all report)) c.as_slice.ensures.value c.report_of.ensures)
