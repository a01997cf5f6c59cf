use Rattle.std.proofs.Common.{◌∙◌}
use Rattle.page_maps.proofs.Gridding.{size_is}
use Rattle.page_maps.proofs.cells.size_of_cells.Goals as goal

pub returns-clause-size : goal.returns-clause-size
returns-clause-size c =
    size_is c.args.network c.number-2.result c.number.result c.requires (c.number-2.ensures ∙ c.first.ensures.value) (c.number.ensures ∙ c.last.ensures)
