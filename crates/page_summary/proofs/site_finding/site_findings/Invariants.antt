-- The lines so far that stand out.
use Rattle.std.proofs.Common.{◌≡◌, map, take}
use Rattle.std.specs.List.{flat_map}
use Rattle.page_findings.specs.Deciding.{deciding_value}
use Rattle.page_findings.specs.Lines.{line_value}
use Rattle.page_summary.specs.SiteFinding.{finding_if, site_finding_value}
use Rattle.page_summary.proofs.site_finding.site_findings.Given as goal

abbrev pub invariant-loop-line : goal.invariant-loop-line
invariant-loop-line l = map site_finding_value l.found.items ≡ flat_map (λ line. finding_if (map deciding_value l.deciding) (line_value line)) (take l.line-index l.lines)
