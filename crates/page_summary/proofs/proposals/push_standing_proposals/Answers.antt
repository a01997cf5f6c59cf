use Rattle.std.proofs.Common.{[], ◌∷◌, codes, map}
use Rattle.std.specs.String.{string_bytes}
use Rattle.std.proofs.lemmas.Result.{on_ok_weaker}
use Rattle.page_html.proofs.Gaining.{two_pieces}
use Rattle.page_html.specs.Blocks.{element_html}
use Rattle.page_html.specs.Items.{Own, Words}
use Rattle.page_html.specs.declared.blocks.Element.TheVariants.{Heading}
use Rattle.page_summary.specs.Proposals.{list_if_any, proposal_value}
use Rattle.page_summary.proofs.proposals.push_standing_proposals.Goals as goal

pub returns : goal.returns
returns c =
    on_ok_weaker c.push_list_if_any.result
    (two_pieces (string_bytes c.args.page.now) (string_bytes c.push_element.new.page) (string_bytes c.push_list_if_any.new.page)
    (element_html Heading (Own (Words (codes "What stands out")) ∷ [])) (list_if_any c.args.table.now (map proposal_value c.args.rows.now))
    c.in_ok-push_element.ensures)
    c.push_list_if_any.ensures
