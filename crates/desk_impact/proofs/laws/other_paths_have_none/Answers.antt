use Rattle.desk_impact.proofs.Elsewhere.{other_paths_have_none}
use Rattle.desk_impact.proofs.laws.other_paths_have_none.Goals as goal

pub returns : goal.returns
returns c = other_paths_have_none
