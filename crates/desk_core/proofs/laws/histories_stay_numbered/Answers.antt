use Rattle.desk_core.proofs.Runs.{histories_stay_numbered}
use Rattle.desk_core.proofs.laws.histories_stay_numbered.Goals as goal

pub returns : goal.returns
returns c = histories_stay_numbered
