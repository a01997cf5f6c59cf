use Rattle.std.proofs.Common.{◌++◌, ◌∙◌, ap, map}
use Rattle.std.specs.String.{string_bytes}
use Rattle.std.proofs.lemmas.Result.{on_ok_weaker}
use Rattle.page_html.specs.Blocks.{element_html}
use Rattle.page_html.specs.Parts.{item_of}
use Rattle.page_html.specs.declared.blocks.Element.TheVariants.{Entry}
use Rattle.page_filesystem.proofs.findings.push_entry.Goals as goal

pub returns : goal.returns
returns c =
    on_ok_weaker c.push_element.result
    (λ added. added ∙ ap (λ items. string_bytes c.args.page.now ++ element_html Entry items)
    (ap (map item_of) c.as_slice.ensures.value ∙ c.in_ok-parts.ensures))
    c.push_element.ensures
