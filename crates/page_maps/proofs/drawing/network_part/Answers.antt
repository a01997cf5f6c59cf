use Rattle.std.proofs.Common.{◌∙◌, ap}
use Rattle.page_html.specs.Items.{Network, Own}
use Rattle.page_maps.proofs.drawing.network_part.Goals as goal

pub returns : goal.returns
returns c =
    ap (λ n. Own (Network n c.get.result)) c.first.ensures.value ∙ ap (λ n. Own (Network c.args.network.first n)) (c.get.ensures.value ∙ c.prefix.ensures)
