use Rattle.std.proofs.Common.{[], ◌∷◌}
use Rattle.std.specs.String.{string_bytes}
use Rattle.std.proofs.lemmas.Result.{on_ok_weaker}
use Rattle.page_html.proofs.Gaining.{five_pieces}
use Rattle.page_html.specs.Blocks.{element_html, system_start}
use Rattle.page_html.specs.Items.{Code}
use Rattle.page_html.specs.declared.blocks.Element.TheVariants.{Heading}
use Rattle.page_filesystem.specs.Facts.{facts}
use Rattle.page_filesystem.specs.Findings.{findings_list}
use Rattle.page_filesystem.specs.Parts.{proposal_part}
use Rattle.page_filesystem.proofs.parts.push_head_part.Goals as goal

pub returns : goal.returns
returns c =
    let part = c.args.part.now in
    on_ok_weaker c.push_proposal.result
    (five_pieces (string_bytes c.args.page.now) (string_bytes c.push_system_start.new.page) (string_bytes c.push_element.new.page)
    (string_bytes c.push_facts.new.page) (string_bytes c.push_findings.new.page) (string_bytes c.push_proposal.new.page)
    (system_start part.fs.0) (element_html Heading (Code part.name.now ∷ []))
    (facts part) (findings_list part.findings.now)
    (proposal_part part part.proposal) c.in_ok-push_system_start.ensures c.in_ok-push_element.ensures c.in_ok-push_facts.ensures
    c.in_ok-push_findings.ensures)
    c.push_proposal.ensures
