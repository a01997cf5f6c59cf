use Rattle.std.proofs.Common.{◌≡◌, ◌<◌, ◌∙◌, ap, arith, length, map, subst}
use Rattle.std.specs.Prelude.{IfOk, filter}
use Rattle.std.proofs.lemmas.Result.{IfOk-weaker}
use Rattle.desk_policy.specs.Policy.{Content, rows_of, with_lines_of}
use Rattle.desk_impact.specs.Places.{place_of}
use Rattle.desk_impact.specs.PrivatePlaces.{ArePlacesWith, is_place_in}
use Rattle.desk_impact.specs.PrivateReport.{IsReportOf}
use Rattle.desk_impact.specs.Report.{IsReport}
use Rattle.desk_impact.proofs.OtherLines.{lines_reported}
use Rattle.desk_impact.proofs.report.lines_report.Goals as goal

pub returns : goal.returns
returns g c =
    let old = g.V.PolicyView.in_force c.args.before.now in
    let new = g.V.PolicyView.in_force c.args.lines.now in
    let fs = c.args.fs.0 in
    let places = map place_of c.in_ok-places.places.items in
    let own = map place_of c.in_ok-own.own.items in
    let within : fs < length old.rows = subst (λ (content : Content). fs < length content.rows) c.policy-policy.ensures
    (omega (arith, c.requires.fs, ap (λ (content : Content). length content.table) c.policy-policy.ensures, c.rows_by_filesystem-rows.ensures.each, ap length c.rows_by_filesystem-rows.ensures.rows)) in
    let with_lines : ArePlacesWith old (rows_of new fs) places =
    subst (λ rows. ArePlacesWith old rows places) (c.rows.ensures ∙ ap (λ content. rows_of content fs) c.policy.ensures)
    (subst (λ content. ArePlacesWith content c.rows.result.now places) c.policy-policy.ensures c.in_ok-places.ensures) in
    let chosen : own ≡ filter (is_place_in old.table fs) places =
    c.in_ok-own.ensures ∙ ap (λ items. filter (is_place_in c.filesystems.result.now fs) (map place_of items)) c.as_slice.ensures.value
    ∙ ap (λ table. filter (is_place_in table fs) places) (c.filesystems.ensures ∙ ap (λ (content : Content). content.table) c.policy-policy.ensures) in
    IfOk-weaker c.report_of.result (λ report. IsReportOf old new own c.args.all report) (λ report. IsReport old (with_lines_of old fs new) c.args.all report)
    (λ report is. lines_reported c.same_sayings_are_no_change.ensures old new fs c.requires.table within c.args.all places own report with_lines chosen is)
    (subst (λ items. IfOk c.report_of.result (λ report. IsReportOf old new (map place_of items) c.args.all report)) c.as_slice-2.ensures.value c.report_of.ensures)
