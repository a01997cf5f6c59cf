-- What was served, by the history at which the desk stood.
use Rattle.desk_http.proofs.StreamRuns.{replies_are_a_run}
use Rattle.desk_http.proofs.laws.replies_are_a_run.Goals as goal

pub returns : goal.returns
returns g c = replies_are_a_run g.S.Store
