use Rattle.std.proofs.Common.{◌++◌, ◌∙◌, ap, codes, refl}
use Rattle.std.specs.String.{string_bytes}
use Rattle.std.proofs.lemmas.Result.{on_ok_weaker}
use Rattle.page_html.specs.Blocks.{element_html}
use Rattle.page_html.specs.declared.blocks.Element.TheVariants.{Cut}
use Rattle.page_maps.specs.Figures.{comma_item, count_item, count_of, prefix_item}
use Rattle.page_maps.proofs.Itemed.{item_before}
use Rattle.page_maps.proofs.figures.push_cut.Goals as goal

pub returns : goal.returns
returns c =
    let eight = count_of 8 c.args.networks.now in
    let sixteen = count_of 16 c.args.networks.now in
    let wide = c.count_of-wide.ensures in
    let middle = c.count_of-middle.ensures in
    let narrow = c.count_of-narrow.ensures in
    on_ok_weaker c.push_element.result
    (λ added. added ∙ ap (λ items. string_bytes c.args.page.now ++ element_html Cut items)
    (item_before _ _ _ _ refl (item_before _ _ _ _ refl
    (item_before _ _ _ _ (c.count_part.ensures ∙ ap count_item wide)
    (item_before _ _ _ _ (c.prefix_part.ensures ∙ ap (λ n. prefix_item n (codes " /8")) wide)
    (item_before _ _ _ _ (c.comma_part.ensures ∙ ap (λ n. comma_item n 0 c.count_of-middle.result) wide ∙ ap (λ n. comma_item eight 0 n) middle)
    (item_before _ _ _ _ (c.count_part-2.ensures ∙ ap count_item middle)
    (item_before _ _ _ _ (c.prefix_part-2.ensures ∙ ap (λ n. prefix_item n (codes " /16")) middle)
    (item_before _ _ _ _ (c.comma_part-2.ensures ∙ ap (λ n. comma_item n c.count_of-middle.result c.count_of-narrow.result) wide
    ∙ ap (λ n. comma_item eight n c.count_of-narrow.result) middle ∙ ap (λ n. comma_item eight sixteen n) narrow)
    (item_before _ _ _ _ (c.count_part-3.ensures ∙ ap count_item narrow)
    (item_before _ _ _ _ (c.prefix_part-3.ensures ∙ ap (λ n. prefix_item n (codes " /24")) narrow)
    refl)))))))))))
    c.push_element.ensures
