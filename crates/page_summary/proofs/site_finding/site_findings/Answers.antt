use Rattle.std.proofs.Common.{◌∙◌, [], ap, map, sym}
use Rattle.std.specs.List.{flat_map}
use Rattle.std.proofs.lemmas.List.{take_all}
use Rattle.std.proofs.lemmas.List.Folds.{flat_map-map}
use Rattle.page_findings.specs.Deciding.{deciding_value}
use Rattle.page_findings.specs.Lines.{line_value}
use Rattle.page_findings.specs.declared.lines.SiteLine.{SiteLine}
use Rattle.page_data.proofs.Gathered.{writes}
use Rattle.page_summary.specs.SiteFinding.{finding_if, site_finding_value}
use Rattle.page_summary.proofs.Standing.{standing_out}
use Rattle.page_summary.proofs.site_finding.site_findings.Goals as goal

pub loop-line-preserved : goal.loop-line-preserved
loop-line-preserved c =
    writes c.args.lines.now c.loop-line.line-index c.line-item.result c.loop-line-test.true c.line-item.is (λ line. finding_if (map deciding_value c.args.deciding.now) (line_value line)) []
    (map site_finding_value c.loop-line.found.items) (map site_finding_value c.push_finding.new.found.items) c.loop-line.invariant c.in_ok-push_finding.ensures

pub returns : goal.returns
returns c =
    let lines = c.args.lines.now in
    let deciding = (map deciding_value c.args.deciding.now) in
    c.loop-line.invariant
    ∙ ap (flat_map (λ (line : SiteLine). finding_if deciding (line_value line))) (take_all c.loop-line.line-index lines c.loop-line-test.false)
    ∙ sym (flat_map-map (finding_if deciding) line_value lines) ∙ standing_out deciding (map line_value lines)
