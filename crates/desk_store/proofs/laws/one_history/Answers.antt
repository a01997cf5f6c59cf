use Rattle.desk_store.proofs.OneHistory.{one_history}
use Rattle.desk_store.proofs.laws.one_history.Goals as goal

pub returns : goal.returns
returns g = one_history
