use Rattle.std.proofs.Common.{◌++◌, ◌∙◌, ap, map}
use Rattle.page_html.specs.Parts.{item_of}
use Rattle.page_findings.specs.FindingWords.{finding_value, reasons_items}
use Rattle.page_findings.proofs.ByValue.{told_by_value}
use Rattle.page_findings.proofs.finding_words.finding_parts.Goals as goal

pub returns : goal.returns
returns c =
    let finding = c.args.finding.now in
    c.in_ok-push_reasons.ensures
    ∙ ap (λ parts. map item_of parts ++ reasons_items (finding_value finding) finding.reasons.now) c.new-parts.ensures.items
    ∙ told_by_value (finding_value finding) finding.reasons.now
