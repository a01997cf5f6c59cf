use Rattle.std.specs.String.{string_bytes}
use Rattle.std.proofs.lemmas.Result.{on_ok_weaker}
use Rattle.page_html.proofs.Gaining.{four_pieces}
use Rattle.page_html.specs.Blocks.{tag_html}
use Rattle.page_html.specs.declared.blocks.Tag.TheVariants.{SectionEnd}
use Rattle.page_filesystem.specs.Outcomes.{outcome_text}
use Rattle.page_filesystem.specs.Proposals.{proposal_start, proposed_text}
use Rattle.page_filesystem.proofs.parts.push_proposal_part.Goals as goal

pub returns : goal.returns
returns c =
    let part = c.args.part.now in
    let proposal = c.args.proposal.now in
    on_ok_weaker c.push_tag.result
    (four_pieces (string_bytes c.args.page.now) (string_bytes c.push_proposal_start.new.page) (string_bytes c.push_proposed_text.new.page)
    (string_bytes c.push_outcome.new.page) (string_bytes c.push_tag.new.page)
    (proposal_start proposal.author.now proposal.revision part.guarded) (proposed_text part.name.now part.text.now proposal.text.now)
    (outcome_text proposal.outcome) (tag_html SectionEnd) c.in_ok-push_proposal_start.ensures c.in_ok-push_proposed_text.ensures
    c.in_ok-push_outcome.ensures)
    c.push_tag.ensures
