use Rattle.desk_impact.proofs.Unchanged.{same_sayings_are_no_change}
use Rattle.desk_impact.proofs.laws.same_sayings_are_no_change.Goals as goal

pub returns : goal.returns
returns c = same_sayings_are_no_change c.verdicts_are_discrete.ensures c.runs_exist.ensures
