use Rattle.desk_impact.proofs.Under.{paths_have_homes}
use Rattle.desk_impact.proofs.laws.paths_have_homes.Goals as goal

pub returns : goal.returns
returns c = paths_have_homes
