use Rattle.desk_store.proofs.CallRuns.{calls_are_a_run}
use Rattle.desk_store.proofs.laws.calls_are_a_run.Goals as goal

pub returns : goal.returns
returns g c = calls_are_a_run g.S.Store
