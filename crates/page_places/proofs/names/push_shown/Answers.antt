use Rattle.std.proofs.Common.{◌++◌, ◌∙◌, ap, map, sym}
use Rattle.std.specs.String.{string_bytes}
use Rattle.std.proofs.lemmas.Result.{on_ok_weaker}
use Rattle.page_html.specs.Blocks.{element_html}
use Rattle.page_html.specs.Parts.{item_of}
use Rattle.page_html.specs.Titles.{title_of}
use Rattle.page_places.specs.Names.{shown}
use Rattle.page_places.proofs.Sized.{in_two_steps}
use Rattle.page_places.proofs.names.push_shown.Goals as goal

pub returns : goal.returns
returns c =
    on_ok_weaker c.push_element.result
    (λ added. added ∙ ap (λ items. string_bytes c.args.page.now ++ element_html c.args.element items)
    (ap (map item_of) c.as_slice.ensures.value ∙ c.in_ok-parts.ensures ∙ sym (in_two_steps shown title_of c.args.title.now)))
    c.push_element.ensures
