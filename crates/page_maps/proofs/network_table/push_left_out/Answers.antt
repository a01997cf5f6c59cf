use Rattle.std.proofs.Common.{◌++◌, ◌∙◌, [], ap, eqb, sym}
use Rattle.std.proofs.lemmas.Bool.{cond-false, ne_eqb}
use Rattle.std.proofs.lemmas.Result.{on_ok_weaker}
use Rattle.std.specs.String.{string_bytes}
use Rattle.page_html.specs.Blocks.{element_html}
use Rattle.page_html.specs.declared.blocks.Element.TheVariants.{Cut}
use Rattle.page_maps.specs.NetworkTable.{not_listed}
use Rattle.page_maps.proofs.network_table.push_left_out.Goals as goal

pub returns : goal.returns
returns c =
    let count = c.args.count in
    on_ok_weaker c.push_element.result
    (λ added. added ∙ ap (λ text. string_bytes c.args.page.now ++ text)
    (sym (cond-false (eqb count 0) [] (element_html Cut (not_listed count)) (ne_eqb count 0 c.if-count-eq0.false))))
    c.push_element.ensures
