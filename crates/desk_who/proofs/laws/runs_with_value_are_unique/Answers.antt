use Rattle.desk_who.proofs.Kept.{runs_with_value_are_unique}
use Rattle.desk_who.proofs.laws.runs_with_value_are_unique.Goals as goal

pub returns : goal.returns
returns g c = runs_with_value_are_unique
