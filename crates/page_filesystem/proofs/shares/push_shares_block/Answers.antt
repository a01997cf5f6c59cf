use Rattle.std.proofs.Common.{[], ◌∷◌, codes}
use Rattle.std.specs.String.{string_bytes}
use Rattle.page_html.proofs.Gaining.{four_pieces}
use Rattle.page_html.specs.Blocks.{element_html, tag_html}
use Rattle.page_html.specs.Items.{Own, Words}
use Rattle.page_html.specs.declared.blocks.Element.TheVariants.{OpenFold}
use Rattle.page_html.specs.declared.blocks.Tag.TheVariants.{FoldEnd}
use Rattle.page_filesystem.specs.Shares.{networks_left_out, shares_table}
use Rattle.page_filesystem.proofs.shares.push_shares_block.Goals as goal

pub returns : goal.returns
returns c =
    four_pieces (string_bytes c.args.page.now) (string_bytes c.push_element.new.page) (string_bytes c.push_shares.new.page)
    (string_bytes c.push_networks_left_out.new.page) (string_bytes c.push_tag.new.page)
    (element_html OpenFold (Own (Words (codes "The same in numbers")) ∷ [])) (shares_table c.args.name.now c.args.shares.now)
    (networks_left_out c.args.left_out) (tag_html FoldEnd)
    c.in_ok-push_element.ensures c.in_ok-push_shares.ensures c.in_ok-push_networks_left_out.ensures c.in_ok-push_tag.ensures
