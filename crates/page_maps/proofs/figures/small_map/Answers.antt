use Rattle.std.proofs.Common.{◌++◌, ◌∙◌, ap}
use Rattle.page_maps.specs.Drawing.{small_map}
use Rattle.page_maps.proofs.figures.small_map.Goals as goal

pub returns : goal.returns
returns c =
    let drawn = c.in_ok-drawn.drawn in
    record {
      drawn = drawn;
      of = c.in_ok-drawn.ensures.network;
      from = c.in_ok-drawn.ensures.drawn;
      image_is = c.in_ok-push_small_map.ensures ∙ ap (λ t. t ++ small_map drawn) c.new-image.ensures;
    }
