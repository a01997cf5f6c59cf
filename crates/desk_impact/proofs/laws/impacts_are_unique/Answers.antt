use Rattle.desk_impact.proofs.Telling.{impacts_are_unique}
use Rattle.desk_impact.proofs.laws.impacts_are_unique.Goals as goal

pub returns : goal.returns
returns c = impacts_are_unique c.runs_are_unique.ensures
