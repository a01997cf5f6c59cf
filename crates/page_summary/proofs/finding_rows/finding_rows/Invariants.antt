-- The rows so far.
use Rattle.std.proofs.Common.{◌≡◌, map, take}
use Rattle.page_summary.specs.SiteFinding.{site_finding_value}
use Rattle.page_summary.specs.Files.{line_values}
use Rattle.page_summary.specs.Findings.{row_value}
use Rattle.page_summary.specs.FindingRows.{row_of}
use Rattle.page_summary.proofs.finding_rows.finding_rows.Given as goal

abbrev pub invariant-loop-one : goal.invariant-loop-one
invariant-loop-one l = map row_value l.rows.items ≡ map (λ one. row_of l.table (map line_values l.texts) (site_finding_value one)) (take l.one-index l.found)
