use Rattle.std.proofs.Common.{◌++◌, ◌∙◌, ap, map}
use Rattle.std.specs.String.{string_bytes}
use Rattle.std.proofs.lemmas.Result.{on_ok_weaker}
use Rattle.page_findings.specs.Deciding.{deciding_value}
use Rattle.page_findings.specs.Lines.{line_value}
use Rattle.page_summary.specs.Figures.{figures}
use Rattle.page_summary.specs.FlavoursTable.{flavours_table}
use Rattle.page_summary.specs.Sections.{section_end}
use Rattle.page_summary.specs.FindingRows.{AreFindingRows, findings_text}
use Rattle.page_summary.specs.FlavoursRows.{AreFlavoursRows}
use Rattle.page_summary.specs.KeyFigures.{AreKeyFigures}
use Rattle.page_summary.specs.Proposals.{proposal_value, standing_proposals}
use Rattle.page_site.proofs.Pieces.{gains_just, gains_then, gains_told}
use Rattle.page_site.proofs.sections.push_summary.Goals as goal

pub returns : goal.returns
returns c =
    let parts = c.args.parts.now in
    let content = parts.policy.now in
    let lines = map line_value parts.lines.now in
    let decided = map deciding_value parts.deciding.now in
    let widening = map proposal_value parts.widening.now in
    let counted = string_bytes c.push_figures_of.new.page in
    let begun = string_bytes c.push_standing_proposals.new.page in
    let found = string_bytes c.push_findings_of.new.page in
    let flavours = string_bytes c.push_flavours_of.new.page in
    on_ok_weaker c.push_section_end.result
    (λ ended.
    gains_then (gains_told (AreKeyFigures content lines parts.proposals.now) figures (string_bytes c.args.page.now) counted c.in_ok-push_figures_of.ensures)
    (gains_then (gains_just (standing_proposals content.table widening) counted begun (c.in_ok-push_standing_proposals.ensures ∙ ap (λ table. counted ++ standing_proposals table widening) c.filesystems-table.ensures))
    (gains_then (gains_told (AreFindingRows content.table parts.heads.now decided lines) findings_text begun found c.in_ok-push_findings_of.ensures)
    (gains_then (gains_told (AreFlavoursRows content.table lines) flavours_table found flavours c.in_ok-push_flavours_of.ensures)
    (gains_just section_end flavours (string_bytes c.push_section_end.new.page) ended)))))
    c.push_section_end.ensures
