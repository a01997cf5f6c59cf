use Rattle.std.proofs.Common.{◌∙◌, ap, map, sym, take_all}
use Rattle.page_findings.proofs.Mapped.{map_twice}
use Rattle.page_summary.specs.SiteFinding.{site_finding_value}
use Rattle.page_summary.specs.declared.site_finding.SiteFinding.{SiteFinding}
use Rattle.page_summary.specs.Files.{line_values}
use Rattle.page_summary.specs.Findings.{row_value}
use Rattle.page_summary.specs.FindingRows.{row_of}
use Rattle.page_summary.proofs.Valued.{told_more}
use Rattle.page_summary.proofs.finding_rows.finding_rows.Goals as goal

pub loop-one-preserved : goal.loop-one-preserved
loop-one-preserved c =
    told_more row_value (λ (one : SiteFinding). row_of c.args.table.now (map line_values c.args.texts.now) (site_finding_value one)) c.args.found.now c.loop-one.one-index
    c.one-item.result c.loop-one.rows.items c.push.new.self.items c.finding_row.result c.loop-one-test.true c.one-item.is c.loop-one.invariant
    c.in_ok-push.ensures.items c.finding_row.ensures

pub returns : goal.returns
returns c =
    let texts = map line_values c.args.texts.now in
    c.loop-one.invariant
    ∙ ap (map (λ (one : SiteFinding). row_of c.args.table.now texts (site_finding_value one))) (take_all c.loop-one.one-index c.args.found.now c.loop-one-test.false)
    ∙ sym (map_twice site_finding_value (row_of c.args.table.now texts) c.args.found.now)
