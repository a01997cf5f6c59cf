use Rattle.std.proofs.Common.{◌++◌, ◌∷◌, ◌∙◌, [], ap, codes}
use Rattle.std.proofs.lemmas.Result.{on_ok_weaker}
use Rattle.page_html.specs.Images.{image_html}
use Rattle.page_html.specs.Items.{Number, Own, Words, items_html}
use Rattle.page_maps.proofs.drawing.push_label_end.Goals as goal

pub returns : goal.returns
returns c =
    on_ok_weaker c.push_parts.result
    (λ added. added ∙ ap (λ n. image_html c.args.image.now ++ items_html (Own (Words (codes ", of ")) ∷ Own (Number n) ∷ Own (Words (codes " addresses")) ∷ [])) c.size_of.ensures)
    c.push_parts.ensures
