use Rattle.std.proofs.Common.{◌++◌, ◌∙◌, ap, map}
use Rattle.std.proofs.lemmas.Result.{on_ok_weaker}
use Rattle.page_findings.specs.Badges.{count_words}
use Rattle.page_html.specs.Images.{image_html}
use Rattle.page_html.specs.Items.{items_html}
use Rattle.page_html.specs.Parts.{item_of}
use Rattle.page_maps.proofs.drawing.push_counts.Goals as goal

pub returns : goal.returns
unfolding count_words
returns c =
    on_ok_weaker c.push_parts.result
    (λ added. added ∙ ap (λ items. image_html c.args.image.now ++ items_html items) (ap (map item_of) c.as_slice.ensures.value ∙ c.in_ok-parts.ensures))
    c.push_parts.ensures
