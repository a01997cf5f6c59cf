use Rattle.page_maps.proofs.Covering.{cells_cover}
use Rattle.page_maps.proofs.laws.cells_cover_the_network.Goals as goal

pub returns : goal.returns
returns c = cells_cover c.covers_between_first_and_last.ensures
