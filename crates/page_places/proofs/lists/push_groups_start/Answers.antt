use Rattle.std.proofs.Common.{[], ◌∷◌, codes}
use Rattle.std.specs.String.{string_bytes}
use Rattle.std.proofs.lemmas.Result.{on_ok_weaker}
use Rattle.page_html.specs.Blocks.{element_html}
use Rattle.page_html.specs.Items.{Own, Words}
use Rattle.page_html.specs.declared.blocks.Element.TheVariants.{PlacesHeading}
use Rattle.page_html.proofs.Gaining.{two_pieces}
use Rattle.page_places.specs.Lists.{not_drawn}
use Rattle.page_places.proofs.lists.push_groups_start.Goals as goal

pub returns : goal.returns
returns c =
    on_ok_weaker c.push_not_drawn.result
    (two_pieces (string_bytes c.args.page.now) (string_bytes c.push_element.new.page) (string_bytes c.push_not_drawn.new.page)
    (element_html PlacesHeading (Own (Words (codes "Who may mount which directory")) ∷ [])) (not_drawn c.args.count) c.in_ok-push_element.ensures)
    c.push_not_drawn.ensures
