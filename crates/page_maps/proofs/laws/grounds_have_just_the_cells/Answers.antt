use Rattle.page_maps.proofs.Grounds.{grounds_have_just_the_cells}
use Rattle.page_maps.proofs.laws.grounds_have_just_the_cells.Goals as goal

pub returns : goal.returns
returns c = grounds_have_just_the_cells
