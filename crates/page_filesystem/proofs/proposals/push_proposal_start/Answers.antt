use Rattle.std.proofs.Common.{◌++◌, ◌∷◌, ◌∙◌, [], ap, codes}
use Rattle.std.specs.String.{string_bytes}
use Rattle.std.proofs.lemmas.Result.{on_ok_weaker}
use Rattle.page_html.proofs.Gaining.{three_pieces}
use Rattle.page_html.specs.Blocks.{element_html, tag_html}
use Rattle.page_html.specs.Items.{Code, Number, Own, Words}
use Rattle.page_html.specs.declared.blocks.Element.TheVariants.{Paragraph}
use Rattle.page_html.specs.declared.blocks.Tag.TheVariants.{ProposalStart}
use Rattle.page_filesystem.specs.Proposals.{proposed_as}
use Rattle.page_filesystem.specs.Sections.{heading}
use Rattle.page_filesystem.proofs.proposals.push_proposal_start.Goals as goal

pub returns : goal.returns
returns c =
    let before = string_bytes c.push_heading.new.page in
    on_ok_weaker c.push_element.result
    (λ added. three_pieces (string_bytes c.args.page.now) (string_bytes c.push_tag.new.page) before (string_bytes c.push_element.new.page)
    (tag_html ProposalStart) (heading (codes "A proposal waits")) (element_html Paragraph (proposed_as c.args.author.now c.args.revision c.args.guarded))
    c.in_ok-push_tag.ensures c.in_ok-push_heading.ensures
    (added ∙ ap (λ last. before ++ element_html Paragraph (Code c.args.author.now ∷ Own (Words (codes " proposes this text as revision "))
    ∷ Own (Number c.args.revision) ∷ Own (Words (codes ". It is not in force")) ∷ last ∷ [])) c.approval_part.ensures))
    c.push_element.ensures
