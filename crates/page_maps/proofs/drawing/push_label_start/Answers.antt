use Rattle.std.proofs.Common.{◌++◌, ◌∷◌, ◌∙◌, [], ap, codes}
use Rattle.std.proofs.lemmas.Result.{on_ok_weaker}
use Rattle.page_html.specs.Images.{image_html}
use Rattle.page_html.specs.Items.{Own, Words, items_html}
use Rattle.page_maps.proofs.drawing.push_label_start.Goals as goal

pub returns : goal.returns
returns c =
    on_ok_weaker c.push_parts.result
    (λ added. added ∙ ap (λ item. image_html c.args.image.now ++ items_html (Own (Words (codes "Map of ")) ∷ item ∷ Own (Words (codes ": ")) ∷ [])) c.network_part.ensures)
    c.push_parts.ensures
