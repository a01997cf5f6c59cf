use Rattle.std.proofs.Common.{◌++◌, ◌∷◌, ◌∙◌, [], ap, codes}
use Rattle.desk_text.specs.Network.{block_size}
use Rattle.page_data.specs.Counts.{granted_of}
use Rattle.page_html.specs.Images.{image_html}
use Rattle.page_html.specs.Items.{Own, PartOf, items_html}
use Rattle.page_html.proofs.Gaining.{five_pieces}
use Rattle.page_maps.specs.Figures.{name_item}
use Rattle.page_maps.proofs.figures.push_caption.Goals as goal

pub returns : goal.returns
returns c =
    let drawn = c.args.drawn.now in
    let s0 = image_html c.args.image.now in
    let s1 = image_html c.push_fixed.new.self in
    let s2 = image_html c.push_parts.new.self in
    let s3 = image_html c.push_fixed-2.new.self in
    let s4 = image_html c.push_parts-2.new.self in
    let s5 = image_html c.push_fixed-3.new.self in
    five_pieces s0 s1 s2 s3 s4 s5
    (codes "<figcaption><b>") (items_html (name_item drawn.network ∷ [])) (codes "</b> ")
    (items_html (Own (PartOf (granted_of drawn.counts) (block_size drawn.network.prefix)) ∷ [])) (codes " may</figcaption>")
    c.in_ok-push_fixed.ensures (c.in_ok-push_parts.ensures ∙ ap (λ item. s1 ++ items_html (item ∷ [])) c.name_part.ensures) c.in_ok-push_fixed-2.ensures
    (c.in_ok-push_parts-2.ensures ∙ ap (λ n. s3 ++ items_html (Own (PartOf n c.size_of.result) ∷ [])) c.granted-granted.ensures
    ∙ ap (λ n. s3 ++ items_html (Own (PartOf (granted_of drawn.counts) n) ∷ [])) c.size_of.ensures)
    c.in_ok-push_fixed-3.ensures
