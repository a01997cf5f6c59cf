use Rattle.desk_who.proofs.Kept.{runs_tell_values}
use Rattle.desk_who.proofs.laws.runs_tell_values.Goals as goal

pub returns : goal.returns
returns g c = runs_tell_values
